-- The code's enums for format's rules.
pub mod Rules
