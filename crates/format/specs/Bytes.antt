-- Words read from and stored to a slice at an offset. "A read whose start plus length passes the block size is -84",
-- and so is a store, which then alters nothing. Assumes nothing.
use Rattle.std.specs.Prelude.{Bool, cond, List, ℕ, ◌+◌, leb, length, drop, Err, Ok, Result}
use Rattle.std.proofs.lemmas.List.Edits.{sets}
use Rattle.format.specs.Word.{be32, le32, to_be32, to_le32}
use Rattle.format.specs.declared.Refusal.TheVariants.{Corrupt}
use Rattle.format.specs.declared.Refusal.{Refusal}

-- four bytes at `at` are inside
abbrev pub inside : List ℕ → ℕ → Bool
inside s at = leb (at + 4) (length s)

abbrev pub le32_at : List ℕ → ℕ → Result ℕ Refusal
le32_at s at = cond (inside s at) (Ok (le32 (drop at s))) (Err Corrupt)

abbrev pub be32_at : List ℕ → ℕ → Result ℕ Refusal
be32_at s at = cond (inside s at) (Ok (be32 (drop at s))) (Err Corrupt)

-- what a store answers, and what it leaves: `sets s at vs` has vs stored one after the other from `at` on
abbrev pub put_answer : List ℕ → ℕ → Result Unit Refusal
put_answer s at = cond (inside s at) (Ok tt) (Err Corrupt)

abbrev pub put_le32 : List ℕ → ℕ → ℕ → List ℕ
put_le32 s at w = cond (inside s at) (sets s at (to_le32 w)) s

abbrev pub put_be32 : List ℕ → ℕ → ℕ → List ℕ
put_be32 s at w = cond (inside s at) (sets s at (to_be32 w)) s
