pub mod EngineNode
