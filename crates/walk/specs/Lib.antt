pub mod View
pub mod Walk
pub mod Calls
pub mod InCalls
pub mod Answers
pub mod InPlace
pub mod TightStart
pub mod Entries
