pub mod Coefficients
pub mod KeptRows
pub mod LeafSteps
pub mod PathSteps
pub mod Rows
pub mod Shown
pub mod Stages
