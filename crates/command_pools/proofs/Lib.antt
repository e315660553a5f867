pub mod LineLemmas
pub mod RunAnswers
mod SharedAnswers
