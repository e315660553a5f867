pub mod LineByLine
pub mod Multipliers
pub mod Texts
