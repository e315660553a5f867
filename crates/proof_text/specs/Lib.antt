pub mod Answers
pub mod Progress
pub mod Parts
