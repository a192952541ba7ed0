pub mod SharePage
pub mod EngineShare
