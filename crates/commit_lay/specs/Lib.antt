-- Single stores under a limit, and an entry's data, as the code has them.
pub mod Laid
