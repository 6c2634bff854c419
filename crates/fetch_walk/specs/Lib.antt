-- What the contracts of the walk say, for its callers: what a walk leaves, by format's own definitions.
pub mod Block
-- The code's steps, one by one; proofs/ ties them to format's walk and log. A reader who believes format need not read
-- these.
pub mod Next
pub mod Dir
pub mod State
