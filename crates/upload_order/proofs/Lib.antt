mod Loops
mod WaitingLaws
pub mod Keys
mod Counted
pub mod Peeling
mod Starting
mod Raising
pub mod Users
pub mod Sets
pub mod FallSteps
mod FallCounts
mod FallTurns
mod FallStart
pub mod Versions
pub mod Changed
pub mod Vouching
pub mod Vouchers
pub mod Parts
pub mod Basics
pub mod Conditions
pub mod Entries
pub mod Lists
pub mod Where
pub mod Renaming
pub mod Fitting
pub mod Worlds
pub mod Static
pub mod Along
pub mod AlongStep
pub mod Ups
pub mod Downs
pub mod Turn
pub mod Local
pub mod Peel
pub mod PlanUps
pub mod PlanDowns
pub mod Runs
pub mod Sounds
pub mod ClearLaw
pub mod Accepted
pub mod Fronts
pub mod FreshIds
mod Steps
mod Examples
mod PlanExamples
mod WorldExamples
