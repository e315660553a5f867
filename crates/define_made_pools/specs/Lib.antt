pub mod Generator
pub mod MadePools
pub mod Summary
pub mod WorkedExamples
