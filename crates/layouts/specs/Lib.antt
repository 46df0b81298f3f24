pub mod Positions
pub mod Books
