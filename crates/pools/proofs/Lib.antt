pub mod Distinct
pub mod Keeping
pub mod Starting
pub mod Queueing
pub mod Stacking
pub mod Draining
