pub mod ShareLemmas
pub mod LineLemmas
pub mod RowLemmas
