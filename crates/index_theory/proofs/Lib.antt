-- How large a table is enough; that extending a table is building it afresh.
pub mod Enough
pub mod Extended
