pub mod Collect
pub mod Clauses
pub mod Promises
