pub mod Tells
pub mod Stream
pub mod Recording
pub mod Promises
