pub mod FirstLaws
pub mod BreakLaws
pub mod FactLaws
pub mod SoundLaws
pub mod PassLaws
pub mod SetLaws
pub mod MarkLaws
pub mod ListLaws
pub mod SameLaws
pub mod AmongLaws
pub mod LeakLaws
mod GiveLaws
pub mod BackLaws
mod NeatBack
mod SetBits
pub mod ReportLaws
mod EntryLaws
mod CoverLaws
mod CauseLaws
mod TriesLaws
pub mod TakenLaws
mod Common
