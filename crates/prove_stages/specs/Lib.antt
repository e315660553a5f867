pub mod Chances
pub mod Shapes
