pub mod City
pub mod Common
