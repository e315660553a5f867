pub mod TellingLemmas
pub mod CallLemmas
