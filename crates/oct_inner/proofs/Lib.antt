pub mod Refreshes
pub mod Prunes
pub mod Likely
