pub mod LineByLine
pub mod NumberLists
