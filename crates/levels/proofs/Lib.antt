pub mod LevelLaws
pub mod Determined
