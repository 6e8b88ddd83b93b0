pub mod OrderLaws
pub mod RowLaws
pub mod Loops
pub mod ListLaws
pub mod Determined
