-- A compaction: the log is regular again; its acceptance as one record; the move state; the entries as `format` lists
-- them; what stands behind the slots; an accepted verdict.
pub mod RegularAgain
pub mod Acceptance
pub mod MoveCarried
pub mod EntriesListed
pub mod BehindSlots
pub mod AcceptedVerdict
