-- What the room's tests ask of their callers.
pub mod Tests
