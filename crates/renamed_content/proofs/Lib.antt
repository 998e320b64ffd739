mod Mapped
pub mod Refs
