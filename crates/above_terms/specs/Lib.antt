pub mod AboveTerms
pub mod EngineAbove
