pub mod LineLaws
pub mod GeneratedScript
pub mod WrittenLaws
mod Common
