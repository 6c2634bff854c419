-- What the reads and the stores share.
mod Inside
