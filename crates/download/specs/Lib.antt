pub mod Filter
pub mod FilterCode
pub mod Tell
pub mod TellCode
