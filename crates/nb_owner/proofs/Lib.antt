pub mod UsedLaws
pub mod OpenLaws
pub mod RankLaws
pub mod KeepLaws
pub mod WaitLaws
pub mod OutLaws
pub mod SlotLaws
pub mod SeenLaws
pub mod SizeLaws
mod Common
