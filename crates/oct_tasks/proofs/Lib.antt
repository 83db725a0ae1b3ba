pub mod Choosing
pub mod Runs
pub mod Loads
