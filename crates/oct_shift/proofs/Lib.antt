pub mod Carries
pub mod Rows
pub mod Puts
pub mod Counts
pub mod Settled
pub mod Wholes
pub mod Landings
