pub mod CountLaws
pub mod NeedLaws
pub mod BitLaws
pub mod DigestLaws
pub mod TurnLaws
pub mod ReadCounts
mod Common
