-- The lookups: the number of slots; masks; the key and the difference; on the bytes of a block; the move state; what is
-- found; at offset 0; a slot's classes.
pub mod SlotCount
pub mod Masks
pub mod ByMask
pub mod OnBlock
pub mod MoveState
pub mod MoveAnswer
pub mod WhatIsFound
pub mod AtStart
pub mod SlotSearch
