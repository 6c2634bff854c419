-- What the pass rests on: names and bytes, the set as it is moved, the directory beside it, and a turn of the loop.
pub mod Names
pub mod Moved
pub mod Entry
pub mod Flags
pub mod Kept
pub mod Turn
