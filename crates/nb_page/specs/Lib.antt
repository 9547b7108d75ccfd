pub mod Header
pub mod Free
pub mod Quiet
pub mod Head
pub mod Blank
