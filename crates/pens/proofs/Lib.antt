pub mod PenLaws
pub mod CodeBytes
pub mod Pages
pub mod Determined
