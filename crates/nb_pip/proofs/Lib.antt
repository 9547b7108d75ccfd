pub mod BitLaws
pub mod FillLaws
pub mod LowestLaws
pub mod PlaceLaws
mod Common
