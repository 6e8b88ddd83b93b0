pub mod WriteLaws
pub mod Within
pub mod Determined
