pub mod ByLine
mod Examples
pub mod Lines
pub mod SoFar
pub mod ReadBack
pub mod Told
pub mod Resumes
