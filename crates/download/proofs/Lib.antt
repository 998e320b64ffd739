pub mod Batches
pub mod Closed
pub mod Examples
pub mod Found
pub mod FoundKept
pub mod Passes
pub mod Read
pub mod Sets
