pub mod AnswerLaws
pub mod CauseLaws
pub mod ImageLaws
pub mod FixupLaws
pub mod KeptLaws
pub mod StateLaws
mod Common
