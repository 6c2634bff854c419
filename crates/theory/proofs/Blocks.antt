-- Demand 3 over blocks: an append; a compaction.
pub mod Append
pub mod Compact
