pub mod Advised
pub mod Dangers
