pub mod ByPlace
pub mod Counted
pub mod Known
