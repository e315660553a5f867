pub mod Faults
pub mod Content
pub mod Memory
pub mod Links
