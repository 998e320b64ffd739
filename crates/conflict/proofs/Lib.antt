mod Chosen
mod Entered
mod Examples
mod Plans
mod Settled
mod Sounds
