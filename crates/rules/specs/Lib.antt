pub mod Does
pub mod Lens
pub mod Rows
pub mod Unread
pub mod Promise
pub mod Tight
pub mod Session
