pub mod Stop
pub mod Clauses
pub mod Places
pub mod Promises
