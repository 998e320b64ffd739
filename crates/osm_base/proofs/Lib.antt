pub mod Lists
pub mod Tests
pub mod Digits
pub mod KeyLaw
pub mod Places
pub mod PlaceLaws
pub mod CoordLaw
pub mod MapViews
pub mod RisingKeys
pub mod Halving
pub mod ByRank
pub mod RankedKeys
pub mod ExtendLaws
pub mod AnyMap
pub mod TagLaws
pub mod Cloned
mod Examples
mod TagPlaces
mod ValueExamples
pub mod SameLaws
pub mod Told
