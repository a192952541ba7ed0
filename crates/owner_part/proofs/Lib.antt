-- Where one bidder's conditions stand, that the part holds them, and what the calls answer.
pub mod OwnerLaws
pub mod HeldLaws
pub mod CallLaws
