pub mod Host
pub mod Cuts
pub mod Takes
pub mod Clauses
