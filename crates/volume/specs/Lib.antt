-- What is said of a volume that is lent.
pub mod Lent
