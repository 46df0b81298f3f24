pub mod Remarks
pub mod Lines
