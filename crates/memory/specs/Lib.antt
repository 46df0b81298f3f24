pub mod Shared
pub mod Found
pub mod Perform
pub mod Standings
