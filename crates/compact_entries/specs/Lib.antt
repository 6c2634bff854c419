pub mod Emitted
pub mod Placed
