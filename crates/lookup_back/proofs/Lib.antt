-- A step of the code is a step of format's walk back, and so is one of the iterator.
pub mod Step
mod Left
