pub mod Verified
pub mod Proved
