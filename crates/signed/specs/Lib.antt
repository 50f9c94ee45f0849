pub mod Reading
pub mod Decide
pub mod Calls
pub mod Balanced
