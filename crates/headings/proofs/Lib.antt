pub mod HeadingLaws
pub mod SequenceLaws
pub mod Determined
