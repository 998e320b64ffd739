pub mod Folds
pub mod Replaces
pub mod Unions
