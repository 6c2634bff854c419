-- What a pass over the tags of a committed log rests on: what stands at a place, a step of the iterator, and a turn by
-- the rules; and that fetch says where the log ends.
pub mod Place
pub mod Left
pub mod Turn
pub mod Found
