pub mod EventLaws
pub mod StateLaws
pub mod SyncLaws
mod Common
