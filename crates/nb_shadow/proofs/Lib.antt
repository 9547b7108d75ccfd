mod SeenLaws
mod TwiceLaws
mod RemakeLaws
mod WriteLaws
mod SyncLaws
mod ShadowLaws
mod PassLaws
mod CountLaws
mod AloneLaws
pub mod SameLaws
