pub mod MakesLaws
pub mod LooksLaws
pub mod TestLaws
pub mod ShownLaws
pub mod AgreeLaws
pub mod BeginLaws
pub mod TurnLaws
pub mod SizeLaws
mod Common
