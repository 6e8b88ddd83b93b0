pub mod Mapped
pub mod RefusalLaws
pub mod BoardLaws
pub mod SettleLaws
pub mod DistinctLaws
pub mod Invariant
pub mod Determined
pub mod PostLaws
