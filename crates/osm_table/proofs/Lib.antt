pub mod Each
mod InPlace
mod OrderLaws
mod PlaceLaws
mod TakenOut
mod SwappedOut
mod ListedLaws
mod Standing
pub mod SameLaws
pub mod ToldLaws
pub mod TableTold
mod Examples
