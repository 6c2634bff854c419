-- What a splice is as an unsigned number.
pub mod Splice
