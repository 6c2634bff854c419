-- The part of the buffer that the code cuts is the entry's data. Assumes nothing.
use mathlib.Core.Path.{◌≡◌, refl, sym, ◌∙◌}
use mathlib.Core.Bool.{Bool, true, false}
use mathlib.Core.List.{List, [], ◌++◌}
use Prim.Native.Nat.{ℕ, ◌+◌, ◌-◌, ◌<◌, min}
use native.Mathlib.Omega.{arith}
use lib.ListN.{length, take, drop, length-drop, drop_of_length-le}
use lib.Seq.{take_all, take-nil}
use lib.Dec.{leb}
use borrow.Author.Tests.{eq-eqb, ne_eqb, leb-true, leb-false}
use Rattle.format.specs.Word.{to_le32}
use Rattle.format.specs.Tag.{removal_size}
use Rattle.commit_lay.specs.Laid.{body_of}

-- no more than there is
take_min : (n : ℕ) (l : List ℕ) → take (min n (length l)) l ≡ take n l
take_min n l = go (leb n (length l)) refl
  where
    go : (b : Bool) → leb n (length l) ≡ b → take (min n (length l)) l ≡ take n l
    go true h = let e : min n (length l) ≡ n = omega (arith, leb-true n (length l) h) in rw e
    go false h =
        let e : min n (length l) ≡ length l = omega (arith, leb-false n (length l) h) in
        rw e (take_all (length l) l (omega arith) ∙ sym (take_all n l (omega (arith, leb-false n (length l) h))))

module _ (dat : List ℕ) (off len : ℕ) where
  pub removal_body : len ≡ removal_size → [] ≡ body_of dat off len
  unfolding body_of
  removal_body h = rw (eq-eqb len removal_size h)

  -- f and s are the least of what is asked and what there is
  module _ (f s : ℕ) (ef : f ≡ min (length dat) off) (es : s ≡ min (length dat - f) len) where
    cut : take s (drop f dat) ≡ take len (drop off dat)
    cut = go (leb off (length dat)) refl
      where
        go : (b : Bool) → leb off (length dat) ≡ b → take s (drop f dat) ≡ take len (drop off dat)
        go true h =
            let e : f ≡ off = omega (arith, leb-true off (length dat) h) in
            let n : s ≡ min len (length (drop off dat)) = omega (arith, length-drop off dat) in
            rw (e, n) (take_min len (drop off dat))
        go false h =
            let k : length dat < off = leb-false off (length dat) h in
            rw (drop_of_length-le dat {i = f} (omega arith), drop_of_length-le dat {i = off} (omega arith))
            (take-nil s ∙ sym (take-nil len))

    pub data_body : (len ≡ removal_size → ⊥) → take (f + s - f) (drop f dat) ≡ body_of dat off len
    unfolding body_of
    data_body h =
        let e : f + s - f ≡ s = omega arith in
        rw (ne_eqb len removal_size h, e) cut

-- the eight bytes of two words, v, are an entry's data
pub pair_body : (a b : ℕ) (v : List ℕ) → v ≡ to_le32 a ++ to_le32 b → body_of v 0 8 ≡ to_le32 a ++ to_le32 b
unfolding body_of to_le32
pair_body a b v e = rw e
