pub mod Requests
pub mod Replies
pub mod Views
pub mod Desk
pub mod WorkedDesk
