pub mod Visits
pub mod Answers
