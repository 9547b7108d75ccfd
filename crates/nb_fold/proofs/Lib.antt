pub mod FoldedLaws
pub mod OpenLaws
pub mod AddLaws
pub mod PassLaws
pub mod NextLaws
pub mod MergeLaws
pub mod FoldLaws
pub mod SameLaws
pub mod AcceptLaws
pub mod MergedLaws
mod Common
