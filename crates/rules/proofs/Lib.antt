pub mod Valid
pub mod Rows
pub mod Unread
pub mod Lengths
pub mod Kept
pub mod Demand3
pub mod Tight
pub mod Session
