pub mod Tables
pub mod Moves
pub mod RecordLaws
pub mod SectionLaws
pub mod Determined
