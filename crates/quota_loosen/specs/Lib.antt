pub mod Front
pub mod Sums
pub mod Steps
pub mod Answers
