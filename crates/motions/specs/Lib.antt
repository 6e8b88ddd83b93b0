pub mod Motions
pub mod Speeds
