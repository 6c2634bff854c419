-- What the functions ask of a place in a block, and the text of a walk from a cursor on.
pub mod Part
pub mod Events
