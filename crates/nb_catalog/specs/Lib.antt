pub mod Answers
pub mod Chained
pub mod Heads
pub mod Lines
pub mod NameLists
pub mod Plans
pub mod Reads
pub mod Turns
