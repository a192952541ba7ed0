pub mod NamingLaws
pub mod ProfileLaws
pub mod FactorLaws
