-- The three demands and the requests' promises, and what they rest on.
pub mod PlayLaws
pub mod FloorsLaws
pub mod HonestLaws
pub mod AnswerLaws
pub mod TickLaws
pub mod OwnerOrderLaws
pub mod SameRoundLaws
pub mod CanonicalLaws
pub mod ListLaws
pub mod SlotTermsLaws
pub mod AboveTermsLaws
pub mod SameSetsLaws
pub mod ShareLaws
pub mod LossLaws
pub mod SharpLaws
pub mod Demands
