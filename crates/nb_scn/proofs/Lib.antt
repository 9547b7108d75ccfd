pub mod EntryLaws
pub mod FillLaws
pub mod PlaceLaws
mod Common
