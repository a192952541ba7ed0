pub mod EngineMarks
pub mod EngineClash
