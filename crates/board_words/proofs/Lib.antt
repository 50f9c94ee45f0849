pub mod ChangeRows
pub mod TestSizes
pub mod TestFilled
pub mod TestRows
pub mod TestBoard
