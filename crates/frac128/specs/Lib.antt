pub mod Divisors
pub mod Fractions
