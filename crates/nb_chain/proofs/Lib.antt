pub mod ImageLaws
pub mod CountLaws
pub mod PageLaws
pub mod MostLaws
pub mod LinkLaws
pub mod StartLaws
pub mod AnswerLaws
pub mod CheckLaws
mod Common
