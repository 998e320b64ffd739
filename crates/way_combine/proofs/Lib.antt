pub mod Among
pub mod Combines
pub mod Folded
pub mod Joints
pub mod Runs
pub mod Sounds
pub mod Turns
