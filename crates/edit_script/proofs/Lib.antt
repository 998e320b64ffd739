mod Examples
pub mod Lists
pub mod Lookup
mod MeetingExamples
pub mod Orderly
pub mod TagKeys
pub mod Texts
