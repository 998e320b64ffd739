pub mod Purged
pub mod Touched
