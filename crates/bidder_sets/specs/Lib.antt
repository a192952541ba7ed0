pub mod BidderSets
pub mod EngineSets
