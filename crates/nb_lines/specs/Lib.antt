pub mod Words
pub mod Brief
