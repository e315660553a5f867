pub mod CellLemmas
pub mod DraftLemmas
pub mod PoolLemmas
pub mod StopLemmas
