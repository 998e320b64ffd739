pub mod Counts
pub mod Doings
mod Examples
mod Fed
mod Finding
pub mod Gives
pub mod Goes
pub mod LineEnds
pub mod Opens
mod Ran
mod Refusing
mod Settles
pub mod Steps
pub mod Tests
mod Texts
