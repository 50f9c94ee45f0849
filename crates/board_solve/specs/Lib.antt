pub mod Told
pub mod Combination
pub mod Taking
pub mod Records
