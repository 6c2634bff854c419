-- Reads of a tag's bytes that code makes in two parts: words of a list that was cut behind eight bytes, and the
-- checksum of a tag and then of its data. Assumes nothing.
use mathlib.Core.Path.{◌≡◌, sym, ap, ◌∙◌}
use mathlib.Core.List.{List}
use Prim.Native.Nat.{ℕ, ◌+◌, ◌-◌, ◌^◌, ◌≤◌, ◌<◌}
use native.Mathlib.Omega.{arith}
use lib.Bits.{xor_lt}
use lib.ListN.{take, drop}
use lib.Seq.{get_or-take, take-add}
use Rattle.format.specs.Word.{le32, xor}
use Rattle.format.specs.Crc.{crc}
use Rattle.format.proofs.Words.{le32_at_lem}
use Rattle.format.proofs.Checksum.{crc_append}

pub le32_take : (l : List ℕ) → le32 (take 8 l) ≡ le32 l
unfolding le32
le32_take l = rw (
  get_or-take 8 l 0 0 (omega arith),
  get_or-take 8 l 1 0 (omega arith),
  get_or-take 8 l 2 0 (omega arith),
  get_or-take 8 l 3 0 (omega arith),
)

pub le32_take_second : (l : List ℕ) → le32 (drop 4 (take 8 l)) ≡ le32 (drop 4 l)
le32_take_second l =
    le32_at_lem (take 8 l) 4 ∙ rw (
      get_or-take 8 l 4 0 (omega arith),
      get_or-take 8 l (4 + 1) 0 (omega arith),
      get_or-take 8 l (4 + 2) 0 (omega arith),
      get_or-take 8 l (4 + 3) 0 (omega arith),
    ) (sym (le32_at_lem l 4))

-- a tag's four bytes first, and then its data
pub crc_two : (c n : ℕ) (l : List ℕ) → 4 ≤ n → crc (crc c (take 4 l)) (take (n - 4) (drop 4 l)) ≡ crc c (take n l)
crc_two c n l h =
    let e : 4 + (n - 4) ≡ n = omega arith in
    sym (ap (λ (k : ℕ). crc c (take k l)) (sym e) ∙ ap (crc c) (take-add 4 (n - 4) l)
    ∙ crc_append c (take 4 l) (take (n - 4) (drop 4 l)))

-- the XOR of two words is a word
pub xor_word : (a b : ℕ) → a < 2 ^ 32 → b < 2 ^ 32 → xor a b < 2 ^ 32
unfolding xor
xor_word a b h k = xor_lt 32 a b h k
