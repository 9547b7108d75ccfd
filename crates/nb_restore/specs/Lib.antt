pub mod Copied
pub mod Sources
pub mod Target
pub mod Restore
pub mod Plan
pub mod Kept
pub mod Most
