pub mod Readings
pub mod Texts
pub mod Examples
