pub mod Line
pub mod Read
pub mod Choice
pub mod Parts
