mod ChoiceLaws
pub mod MarkLaws
pub mod FrameLaws
pub mod PartLaws
pub mod BestLaws
pub mod OrderLaws
pub mod ValueLaws
pub mod BoundLaws
pub mod SmallLaws
