pub mod Counts
pub mod Phases
pub mod Relation
pub mod Theorems
