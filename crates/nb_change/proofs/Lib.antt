pub mod MomentLaws
pub mod NameLaws
pub mod ResultLaws
pub mod FaultLaws
pub mod ChangesLaws
pub mod CallLaws
pub mod MovedLaws
pub mod SettledLaws
pub mod ReachedLaws
pub mod GaveLaws
mod Common
