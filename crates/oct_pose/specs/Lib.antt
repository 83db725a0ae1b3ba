pub mod Reach
pub mod Rotation
pub mod Hamilton
pub mod Posed
