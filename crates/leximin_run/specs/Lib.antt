pub mod Answers
pub mod Advancing
pub mod Tracing
