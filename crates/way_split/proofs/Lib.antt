pub mod Cuts
pub mod Endings
pub mod Outlines
pub mod Added
pub mod Sounds
