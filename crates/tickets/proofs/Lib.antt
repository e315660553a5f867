pub mod Ends
pub mod Groups
