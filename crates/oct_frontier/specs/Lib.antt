pub mod Frontier
pub mod Patches
pub mod Found
