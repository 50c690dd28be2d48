pub mod Port
pub mod Promises
pub mod Clauses
