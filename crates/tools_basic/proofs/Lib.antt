pub mod Adds
pub mod Merges
pub mod Moved
pub mod Replaced
pub mod Retags
pub mod Shifts
