pub mod Outcomes
pub mod Sharing
pub mod SoFar
