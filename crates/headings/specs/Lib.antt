pub mod Headings
pub mod Sequences
