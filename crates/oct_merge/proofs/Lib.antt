pub mod Joined
pub mod Known
pub mod Copies
pub mod Needs
pub mod Parts
pub mod Shares
pub mod Tables
pub mod Homes
