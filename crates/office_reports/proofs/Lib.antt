pub mod Names
pub mod Making
pub mod Chances
pub mod SummaryTexts
pub mod LegLines
mod DrawnRounds
