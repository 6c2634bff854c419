-- What the lookups rest on: the slice, the move state, the info.
pub mod Slices
pub mod Moves
pub mod Infos
