pub mod InOrder
pub mod TableSizes
pub mod Refusals
pub mod Trial
pub mod Wrapped
pub mod Covered
pub mod Modulus
pub mod PassedOn
