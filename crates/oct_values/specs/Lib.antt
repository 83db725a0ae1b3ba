pub mod Events
pub mod Blocks
pub mod Depths
pub mod Uniform
pub mod Counts
pub mod Needs
pub mod Classes
pub mod Boxes
