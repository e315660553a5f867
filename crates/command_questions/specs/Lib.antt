pub mod Dice
pub mod Tickets
pub mod Chances
pub mod Short
pub mod Questions
pub mod WorkedQuestions
