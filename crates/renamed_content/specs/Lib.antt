pub mod Renamed
