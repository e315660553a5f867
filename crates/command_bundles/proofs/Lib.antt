pub mod Members
pub mod Stopped
pub mod CheckLines
pub mod Checked
pub mod ShortDrawn
mod CheckedCovers
mod MadeCovers
