-- The two passes over the entries, as the code makes them; proofs/ ties them to format's writer. A reader who believes
-- format need not read these.
pub mod Passes
