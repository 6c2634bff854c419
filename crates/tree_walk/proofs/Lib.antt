-- How the outcomes of walks join, one rule for each way out of the two functions, and how long the text is.
pub mod Outcomes
pub mod Dirs
pub mod Slots
pub mod Brief
pub mod Whole
