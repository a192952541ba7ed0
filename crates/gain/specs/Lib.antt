pub mod Gain
pub mod Call
