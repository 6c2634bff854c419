-- A number grows by a digit at a time.
pub mod Digits
