pub mod Adding
pub mod Answers
pub mod Heads
pub mod Reading
