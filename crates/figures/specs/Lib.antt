pub mod Reads
pub mod Figures
pub mod Letters
pub mod Codes
pub mod Tables
