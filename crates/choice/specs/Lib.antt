pub mod Winner
pub mod Critical
pub mod EngineBids
pub mod EngineRanking
