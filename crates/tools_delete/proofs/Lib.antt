mod Anys
mod Deletes
mod Erased
mod Erases
mod Purges
mod Touches
