-- What the proofs of the functions share, and the promises.
pub mod Cut
pub mod Promises
pub mod Unique
