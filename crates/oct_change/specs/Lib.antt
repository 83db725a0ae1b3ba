pub mod Held
pub mod Notes
pub mod Changes
pub mod Rows
