-- What each function of the raw log adds: data in hex, why a walk stops, the turns of the loop over a walk, both blocks;
-- and that no text is too long.
pub mod DataShown
pub mod StopShown
pub mod WalkShown
pub mod PairShown
pub mod Fits
