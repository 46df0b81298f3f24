pub mod Sets
pub mod Orders
pub mod Stacks
pub mod Rings
pub mod Waiting
pub mod Joining
pub mod Issues
