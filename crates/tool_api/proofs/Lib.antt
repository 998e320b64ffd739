pub mod Added
pub mod Bools
pub mod Bridge
pub mod Changed
pub mod Distincts
pub mod Ends
pub mod Examples
mod FindingExamples
mod ImportExamples
mod MergeExamples
mod ResolveExamples
mod ConflictExamples
mod PieceExamples
pub mod Lasts
pub mod Least
pub mod Looks
pub mod Named
pub mod Passed
pub mod Rooms
pub mod Seen
pub mod Sounds
pub mod SameVerb
mod Cases
