pub mod Answers
pub mod IdOrder
