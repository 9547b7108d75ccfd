pub mod AgentLaws
pub mod TurnLaws
pub mod WithinLaws
mod Common
