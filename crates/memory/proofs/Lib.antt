pub mod Lowest
pub mod Named
pub mod Together
