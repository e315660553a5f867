pub mod Bounds
pub mod Seats
pub mod TakenBack
pub mod Versions
