-- What is shown of a block, and that it is short.
pub mod Told
pub mod Fits
