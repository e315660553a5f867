pub mod Legs
pub mod LegTexts
pub mod Chains
pub mod Laws
