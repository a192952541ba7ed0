-- The worked rounds, established together.
pub mod Rounds
