pub mod Note
pub mod Noted
pub mod Clauses
