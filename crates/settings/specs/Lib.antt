pub mod Bytes
pub mod Choices
pub mod Faults
pub mod Limits
