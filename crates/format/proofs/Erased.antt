-- Laws of the erased byte: which two it is, what erased bytes are as a tag behind a previous one, and the check tag
-- that goes with it. Assumes nothing.
use mathlib.Core.Path.{◌≡◌, refl}
use mathlib.Core.Logic.{◌⊎◌, inl, inr}
use mathlib.Core.Bool.{Bool, true, false, not, cond, ◌||◌}
use Prim.Native.Nat.{ℕ, ◌^◌, ◌≤◌, ◌<◌}
use native.Mathlib.Omega.{arith}
use lib.Dec.{eqb}
use borrow.Author.Tests.{eqb-true, ltb-true, ltb-false, lt-ltb, le-ltb}
use Rattle.format.specs.Word.{be32, xor, all_ones}
use Rattle.format.specs.Tag.{tag_valid, tag_flipped, tag_of}
use Rattle.format.specs.Kind.{no_slot}
use Rattle.format.specs.Erased.{erased_fits, erased, validity_fits, BitFits, BitWrong, check_type}
use Rattle.format.specs.Commit.{check_tag}
use Rattle.format.proofs.Tags.{xor_zero, apart_invalid, apart_invalid'}

-- ---- "0xff or 0x00"
abbrev pub Erases : ℕ → Type 0
Erases e = (e ≡ 0xff) ⊎ (e ≡ 0x00)

pub erases : (e : ℕ) → erased_fits e ≡ true → Erases e
erases e h = go (eqb e 0xff) (eqb e 0x00) refl refl h
  where
    go : (a b : Bool) → eqb e 0xff ≡ a → eqb e 0x00 ≡ b → a || b ≡ true → Erases e
    go true b ha hb q = inl (eqb-true e 0xff ha)
    go false true ha hb q = inr (eqb-true e 0x00 hb)
    go false false ha hb q = absurd (let z : ◌≡◌ {A = ℕ} 0 1 = cc in omega arith)

pub erases_byte : (e : ℕ) → Erases e → e < 2 ^ 8
erases_byte e (inl h) = omega arith
erases_byte e (inr h) = omega arith

-- ---- "bit 31 of the end tag clear for 0xff, set for 0x00", as a test and in numbers
not_valid : (b : Bool) → not b ≡ true → b ≡ false
not_valid true h = absurd (let z : ◌≡◌ {A = ℕ} 0 1 = cc in omega arith)
not_valid false h = refl

valid_not : (b : Bool) → not b ≡ false → b ≡ true
valid_not true h = refl
valid_not false h = absurd (let z : ◌≡◌ {A = ℕ} 0 1 = cc in omega arith)

module _ (e etag : ℕ) where
  pub bit_fits : Erases e → validity_fits e etag ≡ true → BitFits e etag
  unfolding validity_fits
  bit_fits (inl h) v = inl (h, ltb-true etag (2 ^ 31) (rw h at v))
  bit_fits (inr h) v = inr (h, ltb-false etag (2 ^ 31) (not_valid (tag_valid etag) (rw h at v)))

  pub bit_wrong : Erases e → validity_fits e etag ≡ false → BitWrong e etag
  unfolding validity_fits
  bit_wrong (inl h) v = inl (h, ltb-false etag (2 ^ 31) (rw h at v))
  bit_wrong (inr h) v = inr (h, ltb-true etag (2 ^ 31) (valid_not (tag_valid etag) (rw h at v)))

  pub fits_bit : BitFits e etag → validity_fits e etag ≡ true
  unfolding validity_fits
  fits_bit (inl h) = rw h.0 (lt-ltb etag (2 ^ 31) h.1)
  fits_bit (inr h) = rw (h.0, le-ltb etag (2 ^ 31) h.1)

  pub wrong_bit : BitWrong e etag → validity_fits e etag ≡ false
  unfolding validity_fits
  wrong_bit (inl h) = rw h.0 (le-ltb etag (2 ^ 31) h.1)
  wrong_bit (inr h) = rw (h.0, lt-ltb etag (2 ^ 31) h.1)

-- ---- four erased bytes as a tag
ones : be32 (erased 0xff 4) ≡ all_ones
unfolding be32
ones = refl

zeros : be32 (erased 0x00 4) ≡ 0
unfolding be32
zeros = refl

-- behind an end tag whose validity bit fits they are invalid
pub erased_stops : (e p : ℕ) → Erases e → validity_fits e p ≡ true → 2 ^ 31 ≤ xor (be32 (erased e 4)) p
erased_stops e p byte v = go (bit_fits e p byte v)
  where
    go : BitFits e p → 2 ^ 31 ≤ xor (be32 (erased e 4)) p
    go (inl h) = rw (h.0, ones) (apart_invalid' all_ones p (omega arith) h.1)
    go (inr h) = rw (h.0, zeros) (apart_invalid 0 p (omega arith) h.1)

-- behind any valid tag they are invalid, or that tag again
pub erased_repeats : (e p : ℕ) → Erases e → p < 2 ^ 31 → xor (be32 (erased e 4)) p < 2 ^ 31
    → xor (be32 (erased e 4)) p ≡ p
erased_repeats e p (inl h) small v =
    let w : xor all_ones p < 2 ^ 31 = rw (h, ones) at v in absurd
    (omega (arith, apart_invalid' all_ones p (omega arith) small))
erased_repeats e p (inr h) small v = rw (h, zeros) (xor_zero p)

-- ---- the check tag
pub check_type_lem : (e : ℕ) → (0x500 ≤ check_type e) × (check_type e < 0x502)
unfolding check_type
check_type_lem e = go (eqb e 0x00)
  where
    go : (z : Bool) → (0x500 ≤ cond z 0x501 0x500) × (cond z 0x501 0x500 < 0x502)
    go true = (omega arith, omega arith)
    go false = (omega arith, omega arith)

flips_set : (s : ℕ) → s < 2 ^ 10 → 2 ^ 31 ≤ tag_flipped (tag_of 0x501 no_slot s)
unfolding tag_flipped tag_of
flips_set s h = omega arith

flips_none : (s : ℕ) → s < 2 ^ 10 → tag_flipped (tag_of 0x500 no_slot s) < 2 ^ 31
unfolding tag_flipped tag_of
flips_none s h = omega arith

-- the end tag behind it has the validity bit that fits
pub check_fits : (e s : ℕ) → s < 2 ^ 10 → validity_fits e (tag_flipped (check_tag e s)) ≡ true
unfolding validity_fits check_type
check_fits e s h = go (eqb e 0x00)
  where
    go : (z : Bool) → cond z (not (tag_valid (tag_flipped (tag_of (cond z 0x501 0x500) no_slot s))))
        (tag_valid (tag_flipped (tag_of (cond z 0x501 0x500) no_slot s))) ≡ true
    go true = rw (le-ltb (tag_flipped (tag_of 0x501 no_slot s)) (2 ^ 31) (flips_set s h))
    go false = lt-ltb (tag_flipped (tag_of 0x500 no_slot s)) (2 ^ 31) (flips_none s h)
