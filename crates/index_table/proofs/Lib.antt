pub mod Moves
pub mod Halving
pub mod Leading
pub mod Ranks
pub mod Holding
pub mod Altered
