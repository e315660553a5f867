pub mod NameFields
pub mod LowestKinds
pub mod PoolReadAgain
pub mod PoolSpelled
mod FirstFaults
pub mod AnswerLines
pub mod ReadAgain
pub mod Spelled
pub mod Weights
pub mod PanelLines
