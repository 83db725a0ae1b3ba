pub mod Soundness
pub mod Added
