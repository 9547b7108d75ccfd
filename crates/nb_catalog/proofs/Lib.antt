pub mod LineLaws
pub mod EntryLaws
pub mod PlanLaws
pub mod HeadLaws
pub mod FileLaws
pub mod ListLaws
pub mod InLaws
pub mod KeptLaws
pub mod ReadLaws
pub mod ChainLaws
pub mod TurnLaws
pub mod WholeLaws
pub mod PlaceLaws
pub mod DistinctLaws
pub mod KeptFiles
mod Common
