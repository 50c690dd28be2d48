mod Laws
pub mod AsReceived
