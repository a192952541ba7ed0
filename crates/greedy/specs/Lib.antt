pub mod EngineOutcome
pub mod EngineEligible
