pub mod Bits
pub mod Ones
