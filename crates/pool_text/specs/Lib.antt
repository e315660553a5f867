pub mod Answers
pub mod Entries
pub mod Progress
pub mod Ahead
