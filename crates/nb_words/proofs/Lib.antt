pub mod LineLaws
pub mod Rules
pub mod RowLaws
pub mod UseLaws
pub mod Bundles
pub mod Steps
pub mod Looks
pub mod Defined
pub mod Walks
pub mod Ends
pub mod Whole
pub mod Parts
pub mod Table
pub mod JobLaws
pub mod Sets
pub mod Found
mod Common
