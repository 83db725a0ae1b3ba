pub mod Lines
pub mod Words
pub mod Names
pub mod Grammar
pub mod Commands
pub mod Faults
pub mod Reading
pub mod Replies
