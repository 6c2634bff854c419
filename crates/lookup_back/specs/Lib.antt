pub mod Step
pub mod Left
