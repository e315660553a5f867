pub mod Best
pub mod Marks
pub mod Parts
pub mod Starting
