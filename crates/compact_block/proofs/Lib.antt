-- The second pass as compaction's stores; the first pass and the verdict.
pub mod Storing
pub mod Measuring
pub mod Lent
