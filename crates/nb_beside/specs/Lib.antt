pub mod Changed
pub mod Settings
