pub mod Samples
pub mod Cases
pub mod Published
