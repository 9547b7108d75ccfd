pub mod ReadWords
pub mod EndLaws
pub mod ArgLaws
mod Common
