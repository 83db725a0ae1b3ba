pub mod Records
pub mod Masks
pub mod Whole
pub mod Walks
pub mod Classes
pub mod Closings
pub mod Counting
