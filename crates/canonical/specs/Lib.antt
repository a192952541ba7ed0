pub mod Canonical
pub mod EngineParts
