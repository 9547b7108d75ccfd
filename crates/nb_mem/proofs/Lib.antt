pub mod SlotLaws
pub mod SlotNames
pub mod PutLaws
pub mod CountLaws
pub mod CallLaws
pub mod GuidLaws
pub mod OutcomeLaws
pub mod LeftLaws
pub mod CrashLaws
pub mod PickLaws
mod Common
