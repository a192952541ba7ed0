-- What the definitions say of a call, which conditions it gives, and what the functions of this crate rest on.
pub mod RefusalLaws
pub mod WriteLaws
pub mod TermsLaws
