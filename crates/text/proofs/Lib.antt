-- How what is put joins, and what a whole text leaves.
pub mod Joined
pub mod Written
