pub mod Heat
pub mod Starred
pub mod Sheet
