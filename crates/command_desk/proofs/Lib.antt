pub mod Attended
pub mod LinksRead
pub mod Turning
pub mod Counting
pub mod Turned
pub mod Ending
