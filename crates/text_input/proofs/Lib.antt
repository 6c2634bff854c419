-- The record and the block of an input, a loop over its slots, and how long its parts are.
pub mod Input
pub mod Slots
pub mod Short
