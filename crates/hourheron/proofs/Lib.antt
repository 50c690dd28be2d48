pub mod Given
pub mod Answers
pub mod Cuts
pub mod Takes
pub mod Unique
