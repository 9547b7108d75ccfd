pub mod Sets
pub mod Passes
pub mod Walks
pub mod Laws
pub mod Marks
pub mod Findings
pub mod Most
