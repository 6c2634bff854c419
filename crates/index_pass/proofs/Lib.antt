pub mod Entry
pub mod Turn
pub mod Built
