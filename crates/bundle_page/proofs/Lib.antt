pub mod Filling
pub mod Sorting
pub mod Numbers
pub mod SummedCounts
