pub mod Parts
pub mod Changes
pub mod Drawn
pub mod Seen
