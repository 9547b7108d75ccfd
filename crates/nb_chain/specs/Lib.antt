pub mod Chain
pub mod First
pub mod Level
pub mod Next
pub mod Overlay
pub mod Most
