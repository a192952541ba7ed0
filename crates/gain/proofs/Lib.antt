-- Where a bidder stands and what it gains, and the cases of a call.
pub mod SlotLaws
pub mod CallLaws
