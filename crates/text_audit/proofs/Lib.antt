-- What each question is answered by, how the loop goes on, and that the whole is short.
pub mod Steps
pub mod Fits
