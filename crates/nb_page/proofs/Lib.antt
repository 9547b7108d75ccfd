pub mod QuietLaws
pub mod HeaderLaws
pub mod FreeLaws
pub mod FillLaws
pub mod StampLaws
pub mod BlankLaws
mod Common
