-- Which number a fault of the effects or of the bids gives.
pub mod RefusalLaws
