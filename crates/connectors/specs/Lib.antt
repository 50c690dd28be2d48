pub mod Connectors
pub mod Promises
pub mod Clauses
