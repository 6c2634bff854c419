-- A step of the walk back. Assumes nothing.
use Rattle.std.specs.Prelude.{◌≡◌, List, ℕ, ◌+◌, ◌-◌, ◌%◌, ◌^◌, ◌≤◌, ◌<◌, drop, None, Option, Some}
use Rattle.format.specs.Word.{be32, xor}
use Rattle.format.specs.Tag.{tag_length}

-- the tag t that ends at `off` stands at `at`
pub record Ends (off t at : ℕ) : Type 0 where
  pub more : 4 + tag_length t ≤ off
  pub is : at ≡ off - tag_length t

abbrev pub Placed : ℕ → ℕ → Option ℕ → Type 0
Placed off t (Some at) = Ends off t at
Placed off t None = off < 4 + tag_length t

-- the tag before the tag t that stands at `at`
unfoldable pub tag_before : List ℕ → ℕ → ℕ → ℕ
tag_before b at t = xor (be32 (drop at b)) t % 2 ^ 31
