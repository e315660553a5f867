pub mod Pools
pub mod Bundles
