pub mod Turns
pub mod Calls
pub mod EachPort
pub mod Answers
pub mod Isolated
pub mod Differs
