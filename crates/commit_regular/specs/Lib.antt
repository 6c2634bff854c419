pub mod Ends
pub mod Left
pub mod Ruled
