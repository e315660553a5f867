pub mod Volunteers
pub mod MadePools
pub mod Chances
