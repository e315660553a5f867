pub mod NumberLemmas
pub mod PlainLemmas
pub mod ProgramLemmas
pub mod ValueLemmas
pub mod WordsLemmas
