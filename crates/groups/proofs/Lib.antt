pub mod GroupLaws
pub mod Determined
