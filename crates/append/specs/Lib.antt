pub mod Append
pub mod Clauses
pub mod Promises
