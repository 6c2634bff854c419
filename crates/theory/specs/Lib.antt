-- What follows from the definitions of `format` alone, in the order in which to read it: a folder for each of these,
-- whose file says what is in it. No code, and no assumption. It goes on in proofs/, where the pages stand that other
-- crates rest on: demand 3, and those of Commit, Compact and Stopped.
pub mod Walk
pub mod Log
pub mod Directory
pub mod Back
pub mod Blocks
pub mod Lookup
pub mod Rules
pub mod Fetch
pub mod Commit
