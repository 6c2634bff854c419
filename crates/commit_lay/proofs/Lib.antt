-- Laws of the stores: one after the other, and all of them at once.
pub mod Puts
pub mod Parts
pub mod Pasted
