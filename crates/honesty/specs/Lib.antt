pub mod Honesty
