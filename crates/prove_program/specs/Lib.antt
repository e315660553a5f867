pub mod Programs
pub mod Demands
