pub mod Pupil
pub mod Clauses
