pub mod Stages
pub mod Walks
pub mod Shown
pub mod MadeTrees
pub mod MadeLines
