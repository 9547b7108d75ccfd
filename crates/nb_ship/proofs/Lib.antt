pub mod ReadLaws
pub mod FoundLaws
pub mod FindsLaws
pub mod StepLaws
pub mod MergedLaws
pub mod FrameLaws
mod Common
