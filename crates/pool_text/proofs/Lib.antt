pub mod EntryLemmas
pub mod LineByLine
pub mod WritingLemmas
pub mod SizeLine
pub mod NumberAhead
