-- What the pass keeps, of the ids whose names are the one that is asked for. Assumes nothing.
use Rattle.std.specs.Prelude.{◌≡◌, Bool, true, false, cond, List, ℕ, ◌+◌, ◌≤◌, length, eqb, ltb, None, Ok, Option, Result, Some}
use Rattle.format.specs.Tag.{tag_delete, tag_length}
use Rattle.format.specs.Kind.{is_name}
use Rattle.format.specs.Directory.{Load, Act, mk, rm, put, skip}
use Rattle.find_set.specs.Set.{Is, made, removed, assigned}
use Rattle.format.specs.declared.Refusal.{Refusal}

-- the set has, of every id below 1,024, what f says; and where none was ever put in, f has none
pub record Holds (set : List ℕ) (any : Bool) (f : ℕ → Bool) : Type 0 where
  pub marks : Is set f
  pub never : any ≡ false → (i : ℕ) → f i ≡ false

-- the words `new`, and whether any was put in, hold what F makes of what `old` held. No slot has the id 1,024, so none
-- comes in from above.
abbrev pub Keeps : (old : List ℕ) (any : Bool) (new : List ℕ) (still : Bool) (F : (ℕ → Bool) → ℕ → Bool) → Type 0
Keeps old any new still F = (f : ℕ → Bool) → f 1_024 ≡ false → Holds old any f → Holds new still (F f)

-- what an act makes of them; q: what stands under a name is the one that is asked for
unfoldable pub marked : (Option Load → Bool) → Act → (ℕ → Bool) → ℕ → Bool
marked q (mk j) f i = made j f i
marked q (rm j) f i = removed j f i
marked q (put j c v) f i = cond (eqb c 0) (assigned j (q v) f i) (f i)
marked q skip f i = f i

-- an entry at `at` that stands whole in the block, and is no name of a removal's size
pub record Followable (b : List ℕ) (at t : ℕ) : Type 0 where
  pub whole : at + tag_length t ≤ length b
  pub kept : is_name t ≡ true → tag_delete t ≡ false

-- "the lowest id .. or none"
abbrev pub answered : ℕ → Result (Option ℕ) Refusal
answered n = cond (ltb n 1_024) (Ok (Some n)) (Ok None)
