pub mod MinusZero
pub mod Demand2
