-- The laws between the code's steps and format's definitions.
--
-- The cursor's step is a step of format's walk; a directory step is what each of format's folds has.
pub mod Seen
pub mod Steps
-- The loop leaves the folds over what is committed, and the end of a log lies in its block.
pub mod Folds
pub mod Turns
