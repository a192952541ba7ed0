pub mod SeatLaws
pub mod WordLaws
pub mod TakeLaws
