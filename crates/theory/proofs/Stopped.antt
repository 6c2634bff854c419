-- Demand 3, of the calls: a pair shows the machine of its log; images that read as before; what is erased behind a
-- forward check; a commit; a compaction. And the refetch behind a commit.
pub mod Shown
pub mod ReadsAsBefore
pub mod ErasedBehind
pub mod Commit
pub mod Compaction
pub mod Refetch
