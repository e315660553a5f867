pub mod LineByLine
pub mod Counts
pub mod Texts
pub mod Values
