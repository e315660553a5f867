pub mod Making
pub mod Bounds
pub mod Groups
pub mod Rounds
