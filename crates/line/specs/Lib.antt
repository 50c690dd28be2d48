pub mod Line
pub mod Command
pub mod Promises
pub mod Clauses
