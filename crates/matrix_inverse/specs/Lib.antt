pub mod Eliminated
pub mod Steps
