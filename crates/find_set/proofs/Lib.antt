pub mod Digits
pub mod Words
pub mod Moves
pub mod Replaced
pub mod Least
