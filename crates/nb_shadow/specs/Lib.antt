pub mod Pairs
pub mod Entries
pub mod Mirror
pub mod Shadowed
pub mod MirrorLaws
pub mod Alone
