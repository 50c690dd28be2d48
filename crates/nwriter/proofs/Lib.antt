pub mod Printed
pub mod Unique
