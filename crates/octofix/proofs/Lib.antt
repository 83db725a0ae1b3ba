pub mod Alike
mod AsBox
pub mod Chains
pub mod Fronts
pub mod Handles
pub mod InMap
mod Keyed
pub mod Loads
pub mod Models
pub mod Opened
pub mod Poses
pub mod Reaches
mod Rows
pub mod Sights
pub mod Tellings
pub mod Walks
