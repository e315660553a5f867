pub mod DivisorLaws
pub mod ComparisonLaws
pub mod FractionLaws
