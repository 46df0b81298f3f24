pub mod Words
pub mod Ledger
pub mod Explains
pub mod Limits
pub mod Laws
pub mod Examples
pub mod Judge
