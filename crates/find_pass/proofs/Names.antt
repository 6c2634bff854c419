-- Bytes that are compared, and a name's entry. Assumes nothing.
use mathlib.Core.Path.{◌≡◌, refl, ap, ◌∙◌}
use mathlib.Core.Logic.{◌≢◌}
use mathlib.Core.Bool.{Bool, false, ◌&&◌}
use mathlib.Core.List.{List, [], ◌∷◌}
use Prim.Native.Nat.{ℕ, ◌+◌, ◌-◌}
use native.Mathlib.Omega.{arith}
use lib.ListN.{take, drop}
use lib.Dec.{eqb}
use borrow.Author.Tests.{eq-eqb, ne_eqb}
use Rattle.format.specs.Tag.{tag_type3, tag_size}
use Rattle.format.specs.Find.{same_bytes, is_named}
use Rattle.std.specs.Cmp.Lexicographic.{pointwise}
use Rattle.std.specs.Prelude.{Some}

-- the library's comparison is the definition's
same_pointwise : (a b : List ℕ) → pointwise eqb a b ≡ same_bytes a b
unfolding same_bytes
same_pointwise [] [] = refl
same_pointwise [] (y ∷ b) = refl
same_pointwise (x ∷ a) [] = refl
same_pointwise (x ∷ a) (y ∷ b) = ap (λ (q : Bool). eqb x y && q) (same_pointwise a b)

-- ---- a name's entry: k is its type, n its size, x what `==` answers
pub other_type : (name l : List ℕ) (t kind k : ℕ) → k ≡ tag_type3 t → k ≢ kind
    → false ≡ is_named name kind (Some (record { type = tag_type3 t; bytes = l }))
unfolding is_named
other_type name l t kind k ek h = rw (← ek, ne_eqb k kind h)

pub same_type : (b name : List ℕ) (from t kind k n : ℕ) (x : Bool) → k ≡ tag_type3 t → k ≡ kind → n ≡ tag_size t
    → x ≡ pointwise eqb (take (from + n - from) (drop from b)) name
    → x ≡ is_named name kind (Some (record { type = tag_type3 t; bytes = take (tag_size t) (drop from b) }))
unfolding is_named
same_type b name from t kind k n x ek h en ex =
    let e : from + n - from ≡ tag_size t = omega arith in
    ex ∙ same_pointwise (take (from + n - from) (drop from b)) name ∙ rw (e, ← ek, eq-eqb k kind h)
