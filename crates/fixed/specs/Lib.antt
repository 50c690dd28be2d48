pub mod Fixed
pub mod Form
pub mod Clauses
pub mod Places
pub mod Ranges
pub mod Promises
