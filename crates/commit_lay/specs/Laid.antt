-- Single stores under a limit, one after the other, and the data of an entry in its buffer. Assumes nothing.
use Rattle.std.specs.Prelude.{Bool, cond, ◌||◌, List, [], ◌∷◌, ℕ, ◌+◌, ◌-◌, length, take, drop, set, leb, eqb}
use Rattle.format.specs.Tag.{removal_size}
use Rattle.commit_lay.specs.declared.Run.{Run}

-- a run of stores and the block that they go to
pub record Laid : Type 0 where
  pub run : Run
  pub block : List ℕ

abbrev pub laid : Run → List ℕ → Laid
laid w b = record { run = w; block = b }

abbrev pub moved : Laid → ℕ → Laid
moved s x = laid (record { at = s.run.at + 1; left = s.run.left - 1 }) (set s.block s.run.at x)

-- one store, where one may be made and there is room
unfoldable pub put_of : Laid → ℕ → Laid
put_of s x = cond (eqb s.run.left 0) s (cond (leb (length s.block) s.run.at) s (moved s x))

unfoldable pub puts_of : Laid → List ℕ → Laid
puts_of s [] = s
puts_of s (x ∷ xs) = puts_of (put_of s x) xs

-- an entry's data, by its offset and length
unfoldable pub body_of : List ℕ → ℕ → ℕ → List ℕ
body_of dat off len = cond (eqb len removal_size) [] (take len (drop off dat))

abbrev pub in_buffer_of : List ℕ → ℕ → ℕ → Bool
in_buffer_of dat off len = eqb len removal_size || leb (off + len) (length dat)
