pub mod Fill
pub mod Promises
pub mod Clauses
