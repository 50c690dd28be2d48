pub mod Units
pub mod MinusZero
pub mod Proved
