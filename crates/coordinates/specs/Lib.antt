pub mod Coordinates
pub mod Points
pub mod Axes
