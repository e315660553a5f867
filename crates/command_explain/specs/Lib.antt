pub mod AnyTexts
