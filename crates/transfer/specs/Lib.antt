pub mod Transfer
pub mod Clauses
pub mod Promises
