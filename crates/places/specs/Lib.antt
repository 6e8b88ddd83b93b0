pub mod Refusals
pub mod Padded
pub mod Places
pub mod Claims
