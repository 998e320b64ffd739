pub mod Blanks
pub mod Complete
mod Examples
pub mod Found
pub mod Levels
pub mod Meeting
pub mod OfKinds
pub mod Saying
pub mod Sound
pub mod Steps
pub mod Waiting
