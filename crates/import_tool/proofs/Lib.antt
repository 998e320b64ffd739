mod Naming
mod Sounds
mod ByPlace
mod Ends
mod Read
