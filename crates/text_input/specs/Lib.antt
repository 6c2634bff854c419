pub mod Input
pub mod Answer
