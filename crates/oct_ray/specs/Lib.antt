pub mod Segment
pub mod Axis
pub mod Track
pub mod Near
pub mod Range
pub mod Met
pub mod Given
pub mod Placed
