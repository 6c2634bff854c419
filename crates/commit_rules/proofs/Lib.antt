-- Laws of the rules.
pub mod Arms
pub mod Passed
