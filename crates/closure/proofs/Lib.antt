pub mod Least
pub mod Chains
pub mod Walk
pub mod Held
mod Indexed
mod Examples
