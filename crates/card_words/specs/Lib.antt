pub mod FaultWords
pub mod Words
