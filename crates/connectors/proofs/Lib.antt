pub mod Laws
pub mod Numbers
pub mod Restart
pub mod Promises
pub mod Unique
