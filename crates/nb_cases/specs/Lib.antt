pub mod Events
pub mod Syncs
