-- What is proved of an index from the definitions of `format` alone, in the order in which to read it.
pub mod Halving
pub mod Ordered
pub mod Places
pub mod Step
pub mod Ran
pub mod Looked
pub mod Answered
pub mod Ends
pub mod Items
pub mod Owned
