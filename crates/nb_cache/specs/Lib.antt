pub mod Held
pub mod Frames
pub mod Index
