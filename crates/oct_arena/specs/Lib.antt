pub mod Chunks
pub mod Entries
pub mod Free
pub mod Homes
pub mod Nodes
pub mod Packing
