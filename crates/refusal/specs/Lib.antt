pub mod Refusal
pub mod Answer
pub mod Clauses
pub mod Promises
