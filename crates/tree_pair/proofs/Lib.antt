-- How a pair is opened, and what the lookups say of a slot's entry.
pub mod Opened
pub mod Entries
