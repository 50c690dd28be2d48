pub mod Slot
pub mod Step
pub mod Counts
pub mod InTime
pub mod Bytes
pub mod Promise
pub mod Use
