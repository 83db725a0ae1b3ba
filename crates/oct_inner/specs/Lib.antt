pub mod Changes
pub mod Passes
