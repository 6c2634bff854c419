-- What the walk of a slot rests on.
pub mod Turn
pub mod Leaves
pub mod Slots
