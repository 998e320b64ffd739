pub mod Escape
pub mod Written
pub mod Ends
pub mod Text
pub mod Time
