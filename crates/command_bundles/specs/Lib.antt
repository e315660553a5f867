pub mod Stopped
pub mod Checked
pub mod CoverFormat
pub mod Covered
