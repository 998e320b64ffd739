pub mod Folding
pub mod Replace
pub mod Union
