mod Results
pub mod Looked
pub mod Laws
pub mod Exactness
pub mod Ids
pub mod Listed
pub mod SideLaws
pub mod LeadLaws
pub mod Drafted
pub mod Arrivals
pub mod Differs
mod Whole
mod ToldIndex
mod Beside
pub mod ToldPatch
mod EntriesPatch
pub mod Kept
pub mod Changes
mod Examples
mod SoundExamples
mod DiffExamples
