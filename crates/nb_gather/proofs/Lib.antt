pub mod HeadLaws
pub mod QuietLaws
pub mod TouchLaws
pub mod CloseLaws
pub mod GatherLaws
pub mod RunLaws
pub mod WaitingLaws
pub mod AppendLaws
pub mod FitLaws
pub mod NoLevelLaws
pub mod TornLaws
pub mod UnfinishedLaws
pub mod ReadAgain
mod Common
