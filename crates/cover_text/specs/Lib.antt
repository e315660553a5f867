pub mod Answers
pub mod Progress
pub mod Stopped
pub mod Causes
