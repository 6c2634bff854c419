-- A commit's steps as the code makes them; crate `commit` ties them to format's writer. A reader who believes format
-- need not read these.
pub mod Steps
