pub mod Agreement
pub mod BagView
pub mod ListViews
mod TakenOut
pub mod Examples
