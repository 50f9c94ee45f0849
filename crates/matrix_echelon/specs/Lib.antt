pub mod Grid
pub mod Pivots
pub mod Group
pub mod Worked
pub mod Forward
pub mod Reduced
