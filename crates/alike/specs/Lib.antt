pub mod Spreads
pub mod Steps
