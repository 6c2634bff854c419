-- What is said of a pair that is lent.
pub mod Lent
