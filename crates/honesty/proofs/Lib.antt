-- Why a list that bars its owner goes on barring it, demand 3 over rounds, and demand 3 over the calls.
pub mod BlockedLaws
pub mod HonestyLaws
pub mod Honesty
