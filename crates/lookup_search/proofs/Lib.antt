-- What the walk back and the slice rest on.
pub mod Splice
pub mod Turn
pub mod Slices
