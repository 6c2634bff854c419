-- How entries join, and what each function of the code adds.
pub mod Joined
pub mod Written
pub mod Placed
pub mod Sourced
