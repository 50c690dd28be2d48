-- What the proofs of the functions share, the laws for those who call them, and the promises.
pub mod Laws
pub mod Quiet
pub mod Holds
pub mod Scan
pub mod Cuts
pub mod Run
pub mod Calls
pub mod Feeding
pub mod Splitting
pub mod Lent
pub mod Ending
pub mod Nine
pub mod Promises
pub mod Unique
