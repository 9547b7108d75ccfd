pub mod Making
pub mod Gathering
