pub mod Walk
pub mod Writes
pub mod Zeros
pub mod Parts
