pub mod Cells
pub mod Charters
pub mod Rules
pub mod Registers
pub mod WorkedFiles
