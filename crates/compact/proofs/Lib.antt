-- What both calls answer and leave, by what fetch answered.
pub mod Called
