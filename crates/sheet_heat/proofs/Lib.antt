pub mod Boards
pub mod Written
pub mod Mixes
pub mod SheetLaws
pub mod Sheet
