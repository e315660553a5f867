pub mod Courses
pub mod Households
pub mod Sayings
