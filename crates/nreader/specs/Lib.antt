pub mod Reader
pub mod Promises
pub mod Clauses
