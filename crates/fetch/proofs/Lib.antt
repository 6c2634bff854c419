-- What the code reads off a walk is what format's definition says of the log.
pub mod FromWalk
pub mod Answers
-- And the refetch from a record.
pub mod Again
