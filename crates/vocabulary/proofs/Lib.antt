pub mod FixedWords
pub mod Determined
