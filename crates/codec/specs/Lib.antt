pub mod Placed
pub mod BigEndian
pub mod Decimal
