pub mod Telling
pub mod Promises
pub mod Clauses
