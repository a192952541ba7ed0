pub mod SlotTerms
pub mod EngineTerms
