pub mod IndexLaws
pub mod IndexedLaws
pub mod KeyedLaws
pub mod NextLaws
pub mod ShownLaws
mod Common
