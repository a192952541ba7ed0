pub mod EngineFound
pub mod Call
