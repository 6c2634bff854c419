-- The walk back: it meets the log's tags, newest first; what stands at each; read as acts of the machine.
pub mod WalkBack
pub mod EventBytes
pub mod BackActs
