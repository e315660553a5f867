pub mod WherePanel
pub mod Pairs
pub mod Least
pub mod OneAnswer
pub mod BySearch
