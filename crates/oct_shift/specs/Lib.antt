pub mod Shifted
pub mod Moving
pub mod Moved
