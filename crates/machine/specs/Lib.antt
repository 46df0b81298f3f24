pub mod Tables
pub mod Steps
pub mod Begin
pub mod Holds
pub mod Solo
