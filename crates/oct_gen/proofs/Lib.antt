pub mod Numbers
pub mod Shifts
pub mod Texts
pub mod Steps
pub mod Filling
pub mod Written
pub mod Lengths
