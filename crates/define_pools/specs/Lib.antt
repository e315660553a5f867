pub mod Lists
pub mod Pool
pub mod Building
pub mod Lottery
pub mod Certificate
pub mod WorkedExamples
pub mod Leximin
