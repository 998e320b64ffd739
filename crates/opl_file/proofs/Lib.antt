pub mod Batches
pub mod Cutting
mod Finding
mod LinesTold
mod Examples
pub mod Keys
pub mod ReadObjects
pub mod Rising
pub mod Room
pub mod Steps
