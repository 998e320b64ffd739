pub mod Drafts
pub mod Passes
pub mod Walks
