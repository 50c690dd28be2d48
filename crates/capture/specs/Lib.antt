pub mod Words
pub mod Numbers
pub mod Capture
pub mod Clauses
pub mod Promises
