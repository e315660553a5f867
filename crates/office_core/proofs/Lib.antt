mod Actions
mod Runs
