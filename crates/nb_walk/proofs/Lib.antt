pub mod FirstLaws
pub mod SlotLaws
pub mod SpotLaws
pub mod LinkLaws
pub mod WalkLaws
pub mod SpotPages
mod Common
