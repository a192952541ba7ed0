pub mod EngineKeys
pub mod EngineLinks
