pub mod FrameWords
pub mod Quantities
pub mod RefusalWords
pub mod Totals
