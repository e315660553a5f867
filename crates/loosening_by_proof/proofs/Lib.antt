pub mod Sums
pub mod Widest
