pub mod Old
pub mod Archive
pub mod Clauses
pub mod Promises
