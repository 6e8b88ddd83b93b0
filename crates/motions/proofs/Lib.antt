pub mod MotionLaws
pub mod Determined
