pub mod Coefficients
pub mod Kept
pub mod Paths
pub mod Steps
