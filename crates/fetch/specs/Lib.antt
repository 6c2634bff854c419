-- The code's steps, one by one; proofs/ ties them to format's definition. A reader who believes format need not read
-- these.
pub mod Read
pub mod Known
