pub mod Best
pub mod BestPage
pub mod EngineSearch
