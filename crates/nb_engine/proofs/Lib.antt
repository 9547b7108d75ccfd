pub mod WriteLaws
pub mod FreeLaws
pub mod FlagLaws
pub mod BackupLaws
pub mod NewTurn
pub mod NotedLaws
pub mod SlotLaws
pub mod WalkLaws
pub mod LinkLaws
pub mod RowLaws
pub mod GrowLaws
pub mod RoomLaws
pub mod KeepLaws
pub mod DataLaws
mod Common
