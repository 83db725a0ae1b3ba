pub mod Cells
pub mod Lends
pub mod Ownership
