pub mod WordLaws
mod Common
