pub mod Open
pub mod Does
pub mod Beginnings
pub mod Turns
pub mod Looks
