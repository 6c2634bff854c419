-- The walk over a block: one step, both ways; what stands in front does not depend on what follows; what was written is
-- read back; erased bytes; a commit cut short.
pub mod Step
pub mod Locality
pub mod ReadBack
pub mod Erased
pub mod Cut
