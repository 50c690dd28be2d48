pub mod Layout
pub mod Clauses
pub mod Unpack
pub mod Promises
