pub mod Field
pub mod Given
pub mod Unique
