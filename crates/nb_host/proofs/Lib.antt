pub mod Ascii
pub mod NameLaws
pub mod FileLaws
pub mod PlainLaws
pub mod AnswerLaws
mod Common
