-- What follows from specs/, in the order in which to read it: demand 3 of a log, and of blocks; what an accepted
-- commit and an accepted compaction are; both calls, stopped.
pub mod Log
pub mod Directory
pub mod Blocks
pub mod Commit
pub mod Compact
pub mod Stopped
