pub mod Caps
pub mod Reasons
pub mod Visits
pub mod Steps
pub mod WorkedChecks
