pub mod RunEndings
pub mod SharedEndings
pub mod OneAnswer
pub mod LegEndings
