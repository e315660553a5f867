mod Budgets
mod Turns
mod Beginning
mod LegSteps
mod Ending
mod Certified
mod Sharing
