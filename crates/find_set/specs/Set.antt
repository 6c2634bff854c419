-- A set of ids as bits of words, and what becomes of it where a slot is made or removed. Assumes nothing.
use Rattle.std.specs.Prelude.{◌≡◌, Bool, false, cond, List, ℕ, zero, suc, ◌-◌, ◌/◌, ◌%◌, ◌^◌, ◌<◌, get_or, eqb, ltb}

-- whether the id i is in the set: bit i % 32 of word i / 32
unfoldable pub has : List ℕ → ℕ → Bool
has set i = eqb (get_or set (i / 32) 0 / 2 ^ (i % 32) % 2) 1

-- the words hold, of every id below 1,024, what f says
abbrev pub Is : List ℕ → (ℕ → Bool) → Type 0
Is set f = (i : ℕ) → i < 1_024 → has set i ≡ f i

-- a slot is made at j: what was there and above is one higher
unfoldable pub made : ℕ → (ℕ → Bool) → ℕ → Bool
made j f i = cond (ltb i j) (f i) (cond (eqb i j) false (f (i - 1)))

-- the slot j is removed: what was above is one lower
unfoldable pub removed : ℕ → (ℕ → Bool) → ℕ → Bool
removed j f i = cond (ltb i j) (f i) (f (suc i))

unfoldable pub assigned : ℕ → Bool → (ℕ → Bool) → ℕ → Bool
assigned j v f i = cond (eqb i j) v (f i)

-- the lowest of n ids from i on that f has, and i + n where it has none
unfoldable pub lowest : ℕ → ℕ → (ℕ → Bool) → ℕ
lowest zero i f = i
lowest (suc n) i f = cond (f i) i (lowest n (suc i) f)
