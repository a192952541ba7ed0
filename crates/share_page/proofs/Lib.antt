pub mod GoodLaws
pub mod SharingLaws
pub mod RefusalLaws
pub mod SetsLaws
pub mod TableLaws
pub mod WriteLaws
