pub mod Printed
pub mod Clauses
pub mod Promises
