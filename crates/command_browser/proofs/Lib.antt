pub mod HasBytes
pub mod Telling
pub mod NextTold
pub mod Imports
