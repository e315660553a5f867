pub mod AboveCap
pub mod Leaders
pub mod Liveness
pub mod RuledOut
pub mod StageTerms
pub mod Stands
pub mod Stepping
