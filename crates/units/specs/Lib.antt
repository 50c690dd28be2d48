pub mod Units
pub mod Measurement
pub mod Promises
pub mod Clauses
pub mod Ranges
pub mod Refuses
