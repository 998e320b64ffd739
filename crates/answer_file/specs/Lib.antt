pub mod Lines
pub mod Answers
pub mod Text
pub mod ByLine
pub mod Resumed
