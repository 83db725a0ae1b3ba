pub mod Merged
pub mod Need
pub mod Walk
pub mod Pairs
pub mod Shared
