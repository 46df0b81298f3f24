pub mod AloneLaws
pub mod Decoding
pub mod Encoding
pub mod FrameLaws
pub mod LineLaws
