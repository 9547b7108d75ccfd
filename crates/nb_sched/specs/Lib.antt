pub mod Turns
pub mod Within
