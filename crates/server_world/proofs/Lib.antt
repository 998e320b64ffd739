mod Indexing
mod Naming
mod Freeness
pub mod Enough
mod Starting
mod Based
mod Rehearsals
mod Partial
mod Covering
mod PartRehearsals
pub mod Answering
pub mod Walking
mod Unsoundness
pub mod Picking
mod Examples
