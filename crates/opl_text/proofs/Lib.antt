mod Grammar
mod Converse
mod Bytes
pub mod Read
pub mod WrittenLaw
pub mod TimeLaw
mod TimeBack
mod NoBytes
mod Examples
