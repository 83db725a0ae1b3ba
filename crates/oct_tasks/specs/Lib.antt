pub mod Words
pub mod Task
pub mod Meant
pub mod Needs
pub mod Ending
