-- What demand 3 asks over blocks: an append; the entries that write acts, slots and the rest; a compaction.
pub mod Append
pub mod ActItems
pub mod SlotItems
pub mod Compact
pub mod OtherItems
