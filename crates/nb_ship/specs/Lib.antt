pub mod Names
pub mod Answers
pub mod Looks
pub mod Reads
pub mod Steps
pub mod Finds
