pub mod Appending
pub mod Filing
pub mod Taking
pub mod Gathering
pub mod Calling
