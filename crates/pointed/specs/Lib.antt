pub mod Pointed
pub mod Clauses
