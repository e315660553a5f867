mod BodyTexts
mod ByMethod
pub mod Causes
mod Digits
mod DrawnBodies
mod Dropouts
mod Ends
mod Isolation
mod Matching
mod NamedDigits
mod Numbers
mod OwnReplies
mod PublishedRounds
mod RefusalTexts
mod ReplyTexts
mod Routing
mod Seats
mod Statuses
