mod Found
mod Examples
