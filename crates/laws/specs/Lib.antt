pub mod Every
pub mod Flat
pub mod Gives
pub mod Lowest
pub mod Member
pub mod Over
pub mod Within
