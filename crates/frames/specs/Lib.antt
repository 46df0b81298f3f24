pub mod Answers
pub mod Frames
pub mod Hexadecimal
pub mod Laws
pub mod Refusals
