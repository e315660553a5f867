pub mod DrawnRow
pub mod Totals
