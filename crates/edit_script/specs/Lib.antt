pub mod Answers
pub mod Forms
pub mod Grammar
pub mod Items
pub mod Order
pub mod Place
pub mod Reply
pub mod Script
