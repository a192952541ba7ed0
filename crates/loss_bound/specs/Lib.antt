pub mod LossBound
pub mod EngineNaming
