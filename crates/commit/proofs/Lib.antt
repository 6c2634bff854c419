-- From the code's two passes to format's writer: the bytes, the first pass, the second, and both with what is around
-- them.
pub mod Chained
pub mod Judges
pub mod Lays
pub mod Walks
pub mod Whole
-- The laws that the answers cite.
pub mod Rules
