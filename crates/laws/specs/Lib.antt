pub mod Numbers
pub mod Agree
pub mod Mine
pub mod Owes
pub mod Lists
pub mod Points
pub mod Fits
pub mod Theorems
