pub mod PoolsAndProofs
