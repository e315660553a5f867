pub mod Markup
pub mod Numbers
pub mod Drawn
pub mod Page
pub mod Decimals
pub mod Sums
