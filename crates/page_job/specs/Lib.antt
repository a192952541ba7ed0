pub mod PageText
pub mod Input
pub mod Printed
