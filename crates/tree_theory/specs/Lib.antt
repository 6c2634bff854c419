-- What follows from the definitions of the tree's walk: walks from what stands at their pairs, in the order in which to
-- read them.
pub mod Walks
pub mod Enough
pub mod Shorter
pub mod Same
pub mod NameBytes
pub mod Veiled
pub mod Covered
pub mod SeenName
pub mod Nodes
pub mod OnBlock
pub mod InVolume
pub mod ByMachine
