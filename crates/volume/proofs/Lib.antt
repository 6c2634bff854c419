-- What a volume that fits says of its blocks.
pub mod Blocks
