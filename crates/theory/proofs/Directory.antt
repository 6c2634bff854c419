-- The acts of a compaction rebuild the directory.
pub mod Rebuild
