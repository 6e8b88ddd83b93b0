pub mod Samples
pub mod Determined
pub mod Goodness
pub mod Empties
pub mod Equalities
