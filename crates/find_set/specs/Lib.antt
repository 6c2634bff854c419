pub mod Set
pub mod Digit
