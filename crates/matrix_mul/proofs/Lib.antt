pub mod RowsTaken
pub mod RowSums
pub mod Powers
pub mod Places
pub mod PlaceRows
pub mod PlaceLists
