pub mod Play
pub mod EngineEntries
