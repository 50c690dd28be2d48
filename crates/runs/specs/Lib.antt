pub mod Runs
pub mod Promises
pub mod Clauses
