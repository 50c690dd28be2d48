pub mod Replay
pub mod Both
pub mod Follow
pub mod Calls
pub mod Promises
pub mod Ports
pub mod Box
pub mod Clauses
