pub mod NodeChecks
