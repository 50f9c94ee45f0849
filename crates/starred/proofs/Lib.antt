pub mod Sizes
pub mod HeatChecker
pub mod Heat
pub mod Starred
pub mod Sheet
