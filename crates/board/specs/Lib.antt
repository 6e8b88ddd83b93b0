pub mod Boards
pub mod Posts
