-- What `place` asks, of the block of a pair that fits.
pub mod Bounds
