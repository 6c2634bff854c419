-- What the tests tell their callers.
pub mod Sized
pub mod Records
