pub mod Sheet
pub mod Refusal
pub mod Accepted
pub mod Round
pub mod Proper
pub mod Encoded
