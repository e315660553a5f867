pub mod Searches
pub mod Nodes
