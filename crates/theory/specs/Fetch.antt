-- Fetch's answer: which block a found record is of, and what it says of that block; which place it has; and the refetch
-- from a record's end.
pub mod FoundRecord
pub mod FoundBlock
pub mod Places
pub mod Refetched
