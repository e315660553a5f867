pub mod NoTexts
pub mod StoreTold
pub mod StoreOutcomes
pub mod ReadFiles
pub mod OpenRounds
