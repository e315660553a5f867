pub mod Numbers
pub mod Rows
pub mod OneAnswer
pub mod OnePage
pub mod Refusing
