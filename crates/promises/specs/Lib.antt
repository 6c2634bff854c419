-- The demands, in the order in which to read them. docs/PROMISES.md has them in words.
--
-- Demand 1: a refused call alters nothing. (Of the calls that write without a limit: Stopped.)
pub mod Refused
pub mod Writes
-- Demand 2: when each call refuses or accepts, and why there is no room; the erased byte; what a forward check changes
-- of that, and what it says afterwards; that each contract decides; which refusals each call can give; and that an
-- answer's number and values determine it.
pub mod Exactly
pub mod Accepted
pub mod Room
pub mod Torn
pub mod Erased
pub mod Forward
pub mod Decided
pub mod Possible
pub mod PossibleLookups
pub mod PossibleWrites
pub mod Numbers
-- What a found answer's length and place say.
pub mod FoundEntry
-- Document 01's rule and littlefs's, by which a log is regular.
pub mod Rules
-- Document 02, L6: the refetch from a record's end.
pub mod Refetch
-- The directory machine; that a slot by its name is what asking slot by slot gives; and demand 3.
pub mod Directory
pub mod Find
pub mod FindAnswer
pub mod Stopped
pub mod Example
-- Document 02, L8: an index in memory, and behind a commit.
pub mod Index
pub mod IndexGrown
pub mod IndexAnswer
