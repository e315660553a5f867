pub mod Sums
pub mod Counts
pub mod Selected
pub mod Added
pub mod Different
