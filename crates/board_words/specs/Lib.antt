pub mod Held
pub mod Tested
pub mod Records
