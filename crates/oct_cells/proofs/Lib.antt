pub mod Blocks
pub mod Memory
pub mod Sharing
