-- The directory machine and the search back through its acts; acts that rebuild it; which act a tag is.
pub mod Machine
pub mod Rebuild
pub mod Acts
pub mod Types
