-- The log: what is committed of it; what it says, and then what follows it; that it goes on where it ended; what is
-- asked of stores to one block; two blocks, and which answers.
pub mod Committed
pub mod Folds
pub mod Continued
pub mod Stores
pub mod TwoBlocks
