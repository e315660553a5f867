pub mod Budgets
pub mod Operations
pub mod Spans
pub mod Stops
pub mod Widths
