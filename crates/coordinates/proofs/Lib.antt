pub mod Minutes
pub mod Ways
pub mod Goodness
pub mod Axes
pub mod Range
pub mod Globe
pub mod Cases
pub mod Determined
