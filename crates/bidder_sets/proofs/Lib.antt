pub mod MembersLaws
pub mod SetLaws
pub mod NumberedLaws
pub mod LentLaws
