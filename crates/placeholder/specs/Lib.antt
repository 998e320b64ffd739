pub mod Confirmed
pub mod Answers
pub mod Resumed
pub mod Confirm
pub mod Drafting
pub mod Answered
pub mod Laws
