pub mod Moves
pub mod Sections
