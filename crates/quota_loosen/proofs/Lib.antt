pub mod Missed
pub mod Liveness
pub mod LoosenedParts
pub mod Stepping
pub mod Building
pub mod Loosenings
