pub mod Recorder
pub mod Clauses
pub mod Messages
pub mod Promises
