pub mod Placed
pub mod BigEndian
pub mod Decimals
pub mod Signs
