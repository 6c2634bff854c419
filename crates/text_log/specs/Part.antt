-- What the functions over parts of a block ask and leave. Assumes nothing.
use Rattle.std.specs.Prelude.{Bool, ◌&&◌, List, ℕ, ◌+◌, ◌^◌, ◌≤◌, length, leb}
use Rattle.format.specs.Tag.{tag_length}
use Rattle.format.specs.Kind.{is_check}

-- a tag at a place in a block, wholly in it with what stands behind it
pub record Placed (b : List ℕ) (place t : ℕ) : Type 0 where
  pub most : length b ≤ 2 ^ 16
  pub whole : place + tag_length t ≤ length b

-- a place in a block with so many bytes behind it
pub record Reached (b : List ℕ) (place n : ℕ) : Type 0 where
  pub most : length b ≤ 2 ^ 16
  pub reach : place + n ≤ length b

-- a check that stands in so many bytes with its checksum
abbrev pub check_whole : ℕ → ℕ → Bool
check_whole t left = is_check t && leb (tag_length t) left && leb 8 left
