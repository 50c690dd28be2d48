pub mod Frame
pub mod Message
pub mod Faithful
pub mod Clauses
pub mod Refuses
pub mod Laid
