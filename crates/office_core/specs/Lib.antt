pub mod Keeping
pub mod Commands
pub mod Deciding
pub mod Acting
