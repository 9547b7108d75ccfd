pub mod Open
pub mod Beginnings
pub mod Seen
