pub mod Written
pub mod Answers
pub mod Input
pub mod Records
pub mod Examples
