pub mod Laws
pub mod Unique
pub mod Events
pub mod Calls
pub mod Start
pub mod Promises
