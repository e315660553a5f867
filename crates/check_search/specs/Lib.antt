pub mod Answers
pub mod Tallies
pub mod Front
pub mod Weights
pub mod Terms
pub mod Steps
pub mod Likeness
