mod Rows
mod Allowed
mod Found
mod Led
mod Examples
