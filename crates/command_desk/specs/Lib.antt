pub mod DeskTold
pub mod LinksRead
pub mod Serving
pub mod ServeOutcomes
pub mod Rooms
pub mod Turns
