-- What a reader must believe, in the order in which to read it.
--
-- Numbers in bytes, the tag and its types, the checksum.
pub mod Word
pub mod Tag
pub mod Kind
pub mod Crc
-- The walk of a block into its log, and what is committed; what a log says; which of two blocks answers.
pub mod Walk
pub mod Log
pub mod Count
pub mod Record
pub mod View
-- Small arithmetic, words at an offset, pairs, the global state; document 01's numbers for each answer.
pub mod Arith
pub mod Bytes
pub mod Pair
pub mod Gstate
pub mod Answer
-- Fetch.
pub mod Fetch
-- The walk back, the search in it, and the lookups.
pub mod Back
pub mod Look
pub mod Lookup
-- Document 02, L6: fetch again, from a record's end.
pub mod Refetch
-- The writer: its rules and which logs are regular, the erased byte, a commit's bytes, what its stores leave, the room
-- they need.
pub mod Regular
pub mod Directory
pub mod Erased
pub mod Commit
pub mod Stores
pub mod Room
pub mod Entries
pub mod Writer
pub mod Compaction
-- Demand 3: what a pair holds, as a machine, and what both calls leave when they are stopped.
pub mod Machine
pub mod Stopped
-- Document 02, L4: a slot by its name; L8: an index in memory.
pub mod Find
pub mod Index
-- The texts: the listing, the audit, the raw log, what is found.
pub mod Listing
pub mod Audit
pub mod RawLog
pub mod FindText
-- Document 02, L9: a volume, and the tree of its directories.
pub mod Volume
pub mod Tree
pub mod TreeMachine
