pub mod ListSteps
pub mod PoolColumns
pub mod PoolDemands
pub mod CountedRows
pub mod ClassHouseholds
pub mod PoolPrograms
pub mod CategorySteps
