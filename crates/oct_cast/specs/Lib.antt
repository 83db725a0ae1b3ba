pub mod Cast
pub mod Way
