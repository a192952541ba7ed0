pub mod EngineSeats
