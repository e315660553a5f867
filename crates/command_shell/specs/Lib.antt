pub mod Told
pub mod Answers
pub mod Lines
pub mod Outcomes
pub mod Subjects
pub mod Formats
pub mod BundlesOrProofs
