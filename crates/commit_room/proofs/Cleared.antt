-- The loop over the room, what the room's tests answer, and the three checksums. Assumes nothing.
use mathlib.Core.Path.{◌≡◌, refl, ap, ◌∙◌}
use mathlib.Core.Bool.{Bool, true, false, not, ◌&&◌, ◌||◌}
use mathlib.Core.List.{List, [], ◌∷◌}
use Prim.Native.Nat.{ℕ, ◌+◌, ◌*◌, ◌%◌, ◌≤◌, ◌<◌}
use native.Mathlib.Numerals.{add-one}
use native.Mathlib.Omega.{arith}
use lib.Dec.{eqb}
use lib.ListN.{length, get_or, drop_of_length-le}
use lib.Seq.{drop-cons}
use borrow.Author.Tests.{eq-eqb, ne_eqb, eqb-true, lt-ltb, le-ltb, not-false}
use Rattle.format.specs.Word.{le32, to_be32}
use Rattle.format.specs.Tag.{tag_valid}
use Rattle.format.specs.Crc.{crc}
use Rattle.format.specs.Erased.{erased, validity_fits}
use Rattle.format.specs.Stores.{fill, tag_coincides}
use Rattle.format.specs.Room.{erased_run, first_unerased, room_of}
use Rattle.format.specs.declared.Refusal.TheVariants.{Misaligned, WrongValidity, NotErased}
use Rattle.format.proofs.Rooms.{inside_block}
use Rattle.std.specs.Prelude.{Err, Ok}

module _ (e : ℕ) (b : List ℕ) (i : ℕ) where
  pub unerased_end : length b ≤ i → i ≡ first_unerased e b i
  unfolding first_unerased erased_run
  unerased_end h = rw (drop_of_length-le b {i = i} h) (omega arith)

  module _ (h : i < length b) where
    pub unerased_on : get_or b i 0 ≡ e → first_unerased e b i ≡ first_unerased e b (i + 1)
    unfolding first_unerased erased_run
    unerased_on q = rw (add-one i, drop-cons b i 0 h, eq-eqb (get_or b i 0) e q) (omega arith)

    pub unerased_here : (get_or b i 0 ≡ e → ⊥) → i ≡ first_unerased e b i
    unfolding first_unerased erased_run
    unerased_here q = rw (drop-cons b i 0 h, ne_eqb (get_or b i 0) e q) (omega arith)

-- ---- eight at a step
both : (x y : Bool) → x && y ≡ true → (x ≡ true) × (y ≡ true)
both true y e = (refl, e)
both false y e = (cc, cc)

module _ (e : ℕ) (b : List ℕ) (i : ℕ) (h : i + 8 ≤ length b) where
  abbrev is : ℕ → Bool
  is k = eqb (get_or b (i + k) 0) e

  one_on : (k : ℕ) → k < 8 → is k ≡ true → first_unerased e b (i + k) ≡ first_unerased e b (i + (k + 1))
  one_on k l q =
      let n : i + k + 1 ≡ i + (k + 1) = omega arith in
      unerased_on e b (i + k) (omega arith) (eqb-true (get_or b (i + k) 0) e q) ∙ ap (first_unerased e b) n

  pub eight_on : not (eqb (get_or b i 0) e && is 1 && is 2 && is 3 && is 4 && is 5 && is 6 && is 7) ≡ false
      → first_unerased e b i ≡ first_unerased e b (i + 8)
  eight_on q =
      let z : Bool = eqb (get_or b i 0) e in
      let e7 = both (z && is 1 && is 2 && is 3 && is 4 && is 5 && is 6) (is 7) (not-false _ q) in
      let e6 = both (z && is 1 && is 2 && is 3 && is 4 && is 5) (is 6) e7.0 in
      let e5 = both (z && is 1 && is 2 && is 3 && is 4) (is 5) e6.0 in
      let e4 = both (z && is 1 && is 2 && is 3) (is 4) e5.0 in
      let e3 = both (z && is 1 && is 2) (is 3) e4.0 in
      let e2 = both (z && is 1) (is 2) e3.0 in
      let e1 = both z (is 1) e2.0 in
      unerased_on e b i (omega arith) (eqb-true (get_or b i 0) e e1.0) ∙ one_on 1 (omega arith) e1.1
      ∙ one_on 2 (omega arith) e2.1 ∙ one_on 3 (omega arith) e3.1 ∙ one_on 4 (omega arith) e4.1
      ∙ one_on 5 (omega arith) e5.1 ∙ one_on 6 (omega arith) e6.1 ∙ one_on 7 (omega arith) e7.1

-- ---- `validity_fits`: v is what `lfs_tag_isvalid` answers
module _ (e etag : ℕ) (v : Bool) (ev : v ≡ tag_valid etag) where
  pub fits_set : e ≡ 0 → not v ≡ validity_fits e etag
  unfolding validity_fits
  fits_set h = rw (eq-eqb e 0 h, ev)

  pub fits_clear : (e ≡ 0 → ⊥) → v ≡ validity_fits e etag
  unfolding validity_fits
  fits_clear h = rw (ne_eqb e 0 h, ev)

-- ---- `room`: v is what `validity_fits` answers, d what `first_unerased` does
module _ (e prog : ℕ) (b : List ℕ) (end etag : ℕ) where
  pub room_misaligned : (end % prog ≡ 0 → ⊥) → Err Misaligned ≡ room_of e prog b end etag
  unfolding room_of
  room_misaligned h = rw (ne_eqb (end % prog) 0 h)

  module _ (h : end % prog ≡ 0) (v : Bool) (ev : v ≡ validity_fits e etag) where
    pub room_validity : not v ≡ true → Err WrongValidity ≡ room_of e prog b end etag
    unfolding room_of
    room_validity k = rw (eq-eqb (end % prog) 0 h, ← ev, k)

    module _ (k : not v ≡ false) (d : ℕ) (ed : d ≡ first_unerased e b end) where
      pub room_unerased : d < length b → Err (NotErased d) ≡ room_of e prog b end etag
      unfolding room_of
      room_unerased l = rw (eq-eqb (end % prog) 0 h, ← ev, k, ← inside_block e b end, ← ed, lt-ltb d (length b) l)

      pub room_clean_lem : length b ≤ d → (Ok tt) ≡ room_of e prog b end etag
      unfolding room_of
      room_clean_lem l = rw (eq-eqb (end % prog) 0 h, ← ev, k, ← inside_block e b end, ← ed, le-ltb d (length b) l)

-- ---- `coincides`: l is what `be_bytes` answers, x, y and z what `lfs_crc` does
four_erased : (e : ℕ) → e * 0x0101_0101 ≡ le32 (erased e 4)
unfolding le32
four_erased e = omega arith

pub three : (e sum word x y z : ℕ) (l : List ℕ) → l ≡ to_be32 word → x ≡ crc sum (get_or l 0 0 ∷ e ∷ e ∷ e ∷ [])
    → y ≡ crc sum (get_or l 0 0 ∷ get_or l 1 0 ∷ e ∷ e ∷ []) → z ≡ crc sum (get_or l 0 0 ∷ get_or l 1 0 ∷ get_or l 2 0 ∷ e ∷ [])
    → eqb x (e * 0x0101_0101) || eqb y (e * 0x0101_0101) || eqb z (e * 0x0101_0101) ≡ tag_coincides e sum word
unfolding tag_coincides fill to_be32
three e sum word x y z l el ex ey ez = rw (four_erased e, ex, ey, ez, el)
