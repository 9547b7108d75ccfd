pub mod Tests
pub mod Fixup
