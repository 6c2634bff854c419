-- How the loops of the listing go on, and how long the whole is.
pub mod Loops
pub mod Fits
