-- A pair that is lent, as the definitions take it. Assumes nothing.
use Rattle.std.specs.Prelude.{List, ℕ}
use Rattle.format.specs.declared.Geometry.{Geometry}
use Rattle.sizes.specs.declared.Pair.{Pair}

-- a definition over sizes, two images and two block numbers, of the pair that has them
abbrev pub of : {A : Type 0} → Pair → (Geometry → List ℕ → List ℕ → ℕ → ℕ → A) → A
of p f = f p.g p.b0.now p.b1.now p.n0 p.n1
