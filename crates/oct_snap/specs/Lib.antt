pub mod Nodes
pub mod Texts
pub mod Reading
pub mod Common
pub mod Checked
pub mod Filled
pub mod Refusals
pub mod Sound
