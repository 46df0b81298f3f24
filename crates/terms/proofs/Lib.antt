pub mod Lowest
pub mod Puts
