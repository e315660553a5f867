pub mod ContentLaws
pub mod ReadingLaws
