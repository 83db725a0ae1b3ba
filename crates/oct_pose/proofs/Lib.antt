pub mod Bounds
pub mod Hamilton
pub mod Nearness
pub mod Turns
pub mod Upright
