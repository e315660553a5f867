pub mod DrawStops
pub mod Replies
pub mod Rows
pub mod Steps
pub mod Withdrawals
pub mod Told
