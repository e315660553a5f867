pub mod Enumerated
pub mod HouseholdNumbers
pub mod InOrder
pub mod Kept
pub mod QuotaTests
pub mod Twice
pub mod LineCounts
