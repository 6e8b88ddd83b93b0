pub mod Gregorian
pub mod Meanings
pub mod Instants
