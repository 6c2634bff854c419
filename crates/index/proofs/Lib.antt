pub mod Block
pub mod Extend
pub mod Called
pub mod Place
