pub mod ParsedNumbers
pub mod LineByLine
pub mod KeptText
