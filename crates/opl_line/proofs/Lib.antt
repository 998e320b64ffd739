pub mod Cutting
mod Marks
pub mod Fronts
pub mod Coordinates
pub mod Digits
pub mod Items
mod Members
mod Ways
pub mod Times
pub mod Unbroken
pub mod ListsAgain
pub mod Again
pub mod Readable
pub mod Forward
pub mod Back
mod TagSteps
mod ManyTags
mod Told
mod Examples
mod LineExamples
