pub mod Bits
pub mod Bytes
pub mod Counting
pub mod First
pub mod Rising
pub mod Rows
pub mod Tests
