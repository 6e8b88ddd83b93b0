pub mod Order
pub mod Rows
pub mod Listings
pub mod Answers
pub mod Holding
