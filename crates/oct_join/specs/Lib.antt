pub mod Merged
pub mod Joined
pub mod Sides
pub mod Tabled
