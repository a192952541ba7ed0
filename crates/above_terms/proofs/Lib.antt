pub mod AboveLaws
pub mod WriteLaws
pub mod TermsLaws
pub mod RefusalLaws
