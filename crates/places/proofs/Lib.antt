pub mod RefusalLaws
pub mod PaddedLaws
pub mod PlaceLaws
pub mod HeldLaws
pub mod ClaimReturns
pub mod ClaimLaws
pub mod Determined
