-- Why the marks and the links say who is eligible, slot after slot.
pub mod EligibleLaws
pub mod FillLaws
