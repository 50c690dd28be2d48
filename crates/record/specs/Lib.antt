pub mod Record
pub mod Forms
pub mod Clauses
pub mod Places
pub mod Ranges
