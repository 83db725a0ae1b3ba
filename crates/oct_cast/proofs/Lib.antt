pub mod Firsts
pub mod Floors
pub mod Ways
pub mod Steps
