pub mod Words
pub mod Operands
pub mod Calls
pub mod Reading
pub mod Expected
