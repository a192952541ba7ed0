pub mod OwnerPart
