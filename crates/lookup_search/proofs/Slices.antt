-- The slice of what was found: its length, and what the search answers in place of what it should. Assumes nothing.
use Rattle.std.proofs.Common.{◌≡◌, ℕ, ◌-◌, ◌≤◌, min, Bool, true, false, cond, leb, List, ◌++◌, length, take}
use Rattle.std.proofs.Common.{drop, replicate, sym, refl, ap, ◌∙◌, arith, length-append, length-drop, length-take-le, leb-true}
use lib.ListN.{length-replicate}
use Rattle.format.specs.Look.{data_size}
use Rattle.format.specs.Lookup.{slice_start, slice_end, slice_buffer}
use Rattle.format.specs.declared.Found.{Found}
use Rattle.std.specs.Prelude.{None, Option, Some}

-- a slice leaves as many bytes as it was lent
pub slice_length : (b : List ℕ) (goff : ℕ) (d : List ℕ) (u : Option Found) → length (slice_buffer b goff d u) ≡ length d
slice_length b goff d None = refl
slice_length b goff d (Some e) = go (leb (slice_end e goff (length d)) (length b)) refl
  where
    x : List ℕ
    x = take (min (data_size e) (length d)) (drop (slice_start e goff) b)

    go : (c : Bool) → leb (slice_end e goff (length d)) (length b) ≡ c
        → length (cond c (x ++ replicate (length d - data_size e) 0) d) ≡ length d
    go true f =
        let h : slice_end e goff (length d) ≤ length b = leb-true (slice_end e goff (length d)) (length b) f in
        let ex : length x ≡ min (data_size e) (length d) = length-take-le (min (data_size e) (length d))
        (drop (slice_start e goff) b) (omega (arith, length-drop (slice_start e goff) b)) in
        omega (
          arith,
          length-append x (replicate (length d - data_size e) 0),
          length-replicate {A = ℕ} (length d - data_size e) 0,
        )
    go false f = refl

-- ---- h is what the search answers, u what it should
module _ (h u : Option Found) (e : h ≡ u) where
  pub of_hit : {A : Type 0} (f : Option Found → A) {w : Option Found} → h ≡ w → f w ≡ f u
  of_hit f q = ap f (sym q ∙ e)
