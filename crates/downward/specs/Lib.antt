pub mod Downward
pub mod Call
pub mod EngineListed
