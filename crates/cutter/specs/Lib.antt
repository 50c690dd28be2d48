-- The cutter's definitions, and what it promises.
pub mod Cutter
pub mod Clauses
pub mod Stream
pub mod Promises
