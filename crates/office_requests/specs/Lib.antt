pub mod Askings
pub mod Heads
pub mod Reads
pub mod Needs
