pub mod Choice
pub mod Lists
pub mod Base
pub mod Text
pub mod Determined
