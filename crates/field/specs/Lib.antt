pub mod Residue
pub mod View
pub mod Products
pub mod Written
pub mod Totals
pub mod Limbs
