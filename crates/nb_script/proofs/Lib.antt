pub mod Numbers
pub mod LineLaws
pub mod Orders
pub mod Sessions
pub mod Scripts
pub mod Prints
pub mod WordLaws
pub mod StatementLaws
pub mod FirstLaws
pub mod FitLaws
pub mod AskedLaws
pub mod Unbroken
pub mod RoundTrip
mod Common
