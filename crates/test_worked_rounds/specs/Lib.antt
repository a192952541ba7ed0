pub mod Sheets
pub mod Worked
