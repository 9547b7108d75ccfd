pub mod NumberLaws
pub mod ZeroLaws
pub mod PartLaws
pub mod PageLaws
pub mod SizeLaws
pub mod HeaderLaws
pub mod LengthLaws
pub mod PlaceLaws
pub mod FreshLaws
pub mod PlainLaws
pub mod Rows
mod Common
