-- What the proofs of the functions share, and the promises.
pub mod Sends
pub mod Takes
pub mod Readings
pub mod Running
pub mod Sixteen
pub mod Promises
pub mod Unique
