-- Demand 3 of a log: one block under stores; two blocks.
pub mod Stores
pub mod TwoBlocks
