pub mod AddingLaws
pub mod HeadLaws
pub mod NextLaws
pub mod PagesLaws
pub mod ReadingLaws
pub mod StartLaws
pub mod ToldLaws
mod Common
