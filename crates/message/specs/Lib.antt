pub mod Limits
pub mod Names
pub mod Locations
pub mod Reports
pub mod Records
pub mod Words
pub mod Empty
pub mod Sample
