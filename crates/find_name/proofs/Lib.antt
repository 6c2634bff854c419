-- The call, by what fetch answered and which block answers.
pub mod Called
