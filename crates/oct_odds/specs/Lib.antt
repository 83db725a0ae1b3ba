pub mod Odds
pub mod Update
