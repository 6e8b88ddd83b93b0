pub mod Pens
pub mod Outcomes
