pub mod Decide
pub mod Calls
pub mod Parts
pub mod Promises
pub mod Examples
