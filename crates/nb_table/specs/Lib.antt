pub mod Rows
pub mod Walks
pub mod Drops
pub mod Creates
