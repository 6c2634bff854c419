-- Laws of tags as words: what the top byte decides, what the XOR keeps, what bit 31 does not touch, and the fields of a
-- tag that was made. Each field law stands alone, since `omega` meets its bound where several are in reach. Assumes
-- nothing.
use mathlib.Core.Path.{◌≡◌, sym, ap, ◌∙◌}
use mathlib.Core.List.{List, ◌++◌}
use Prim.Native.Nat.{ℕ, zero, suc, ◌+◌, ◌*◌, ◌/◌, ◌%◌, ◌^◌, ◌≤◌, ◌<◌}
use native.Mathlib.Omega.{arith}
use lib.Bits.{bit_xor, xor_shr, xor_mod, xor_comm, xor_zero_r}
use lib.Dec.{eqb}
use borrow.Author.Tests.{eq-eqb, ne_eqb}
use Rattle.format.specs.Word.{be32, to_be32, xor}
use Rattle.format.specs.Tag.{tag_type1, tag_type2, tag_type3, tag_chunk, tag_id, tag_size, removal_size, tag_length}
use Rattle.format.specs.Tag.{tag_flipped, tag_of}
use Rattle.format.specs.Kind.{type_check, is_check}
use Rattle.format.proofs.Xor.{xor_cancel}
use Rattle.format.proofs.Words.{be32_to_be32, xor_undo}

-- ---- the top byte decides whether a tag is valid, and a check
pub top_valid : (t u : ℕ) → t / 2 ^ 24 ≡ u / 2 ^ 24 → t < 2 ^ 31 → u < 2 ^ 31
top_valid t u e h = omega arith

pub top_check : (t u : ℕ) → t / 2 ^ 24 ≡ u / 2 ^ 24 → is_check t ≡ is_check u
top_check t u e = let f : tag_type2 t ≡ tag_type2 u = omega arith in ap (λ (x : ℕ). eqb x type_check) f

pub xor_top : (a b : ℕ) → xor a b / 2 ^ 24 ≡ xor (a / 2 ^ 24) (b / 2 ^ 24)
unfolding xor
xor_top a b = xor_shr a b 24

pub top_xor : (r s p : ℕ) → r / 2 ^ 24 ≡ s / 2 ^ 24 → xor r p / 2 ^ 24 ≡ xor s p / 2 ^ 24
top_xor r s p e = xor_top r p ∙ ap (λ x. xor x (p / 2 ^ 24)) e ∙ sym (xor_top s p)

-- ---- bit 31 of the XOR: of two words that differ in it
pub xor_zero : (p : ℕ) → xor 0 p ≡ p
unfolding xor
xor_zero p = xor_comm 0 p ∙ xor_zero_r p

xor_31 : (a b : ℕ) → xor a b / 2 ^ 31 ≡ xor (a / 2 ^ 31) (b / 2 ^ 31)
unfolding xor
xor_31 a b = xor_shr a b 31

pub apart_invalid : (a b : ℕ) → a < 2 ^ 31 → 2 ^ 31 ≤ b → 2 ^ 31 ≤ xor a b
apart_invalid a b h k =
    let z : a / 2 ^ 31 ≡ 0 = omega arith in
    let f : xor a b / 2 ^ 31 ≡ b / 2 ^ 31 = xor_31 a b ∙ ap (λ x. xor x (b / 2 ^ 31)) z ∙ xor_zero (b / 2 ^ 31) in
    omega arith

pub apart_invalid' : (a b : ℕ) → 2 ^ 31 ≤ a → b < 2 ^ 31 → 2 ^ 31 ≤ xor a b
unfolding xor
apart_invalid' a b h k = rw (xor_comm a b) (apart_invalid b a k h)

-- ---- the XOR chain: a tag that was stored behind a previous one is read back, whatever follows; and the way back
pub tag_read : (t p : ℕ) (r : List ℕ) → xor (be32 (to_be32 (xor t p) ++ r)) p ≡ t
tag_read t p r = ap (λ (w : ℕ). xor w p) (be32_to_be32 (xor t p) r) ∙ xor_undo t p

pub xor_back : (raw prev tag : ℕ) → xor raw prev ≡ tag → xor raw tag ≡ prev
unfolding xor
xor_back raw prev tag h = rw (← h, xor_comm raw (bit_xor raw prev), xor_comm raw prev) (xor_cancel prev raw)

-- bit 31 cleared before or after
pub xor_low : (raw t : ℕ) → xor raw t % 2 ^ 31 ≡ xor raw (t % 2 ^ 31) % 2 ^ 31
unfolding xor
xor_low raw t = xor_mod raw t 31 ∙ ap (λ z. bit_xor (raw % 2 ^ 31) z) (omega arith) ∙ sym (xor_mod raw (t % 2 ^ 31) 31)

-- ---- bit 31 does not show in the fields
pub low_type1 : (t : ℕ) → tag_type1 (t % 2 ^ 31) ≡ tag_type1 t
low_type1 t = omega arith

pub low_type3 : (t : ℕ) → tag_type3 (t % 2 ^ 31) ≡ tag_type3 t
low_type3 t = omega arith

pub low_chunk : (t : ℕ) → tag_chunk (t % 2 ^ 31) ≡ tag_chunk t
low_chunk t = omega arith

pub low_id : (t : ℕ) → tag_id (t % 2 ^ 31) ≡ tag_id t
low_id t = omega arith

pub low_size : (t : ℕ) → tag_size (t % 2 ^ 31) ≡ tag_size t
low_size t = omega arith

pub low_length : (t : ℕ) → tag_length (t % 2 ^ 31) ≡ tag_length t
unfolding tag_length
low_length t = rw (low_size t)

pub flipped_low : (t : ℕ) → t < 2 ^ 31 → tag_flipped t % 2 ^ 31 ≡ t
unfolding tag_flipped
flipped_low t h = omega arith

pub flipped_length : (t : ℕ) → tag_length (tag_flipped t) ≡ tag_length t
unfolding tag_length tag_flipped
flipped_length t = let e : tag_size (t + t / 2 ^ 20 % 2 * 2 ^ 31) ≡ tag_size t = omega arith in rw e

high_bit : (x t : ℕ) → x < 2 → tag_type2 (t + x * 2 ^ 31) ≡ tag_type2 t
high_bit zero t h = omega arith
high_bit (suc zero) t h = omega arith
high_bit (suc (suc x)) t h = absurd (omega arith)

pub flipped_check : (t : ℕ) → is_check (tag_flipped t) ≡ is_check t
unfolding tag_flipped
flipped_check t = ap (λ (x : ℕ). eqb x type_check) (high_bit (t / 2 ^ 20 % 2) t (omega arith))

-- ---- the two cases of the length
pub length_removal : (t : ℕ) → tag_size t ≡ removal_size → tag_length t ≡ 4
unfolding tag_length
length_removal t h = rw (eq-eqb (tag_size t) removal_size h)

pub length_size : (t : ℕ) → (tag_size t ≡ removal_size → ⊥) → tag_length t ≡ 4 + tag_size t
unfolding tag_length
length_size t h = rw (ne_eqb (tag_size t) removal_size h)

-- ---- the fields of a tag that was made
pub of_type3 : (type id size : ℕ) → type < 2 ^ 11 → id < 2 ^ 10 → size < 2 ^ 10 → tag_type3 (tag_of type id size) ≡ type
unfolding tag_of
of_type3 type id size a b c = omega arith

pub of_type1 : (type id size : ℕ) → type < 2 ^ 11 → id < 2 ^ 10 → size < 2 ^ 10
    → tag_type1 (tag_of type id size) ≡ type / 2 ^ 8 * 2 ^ 8
unfolding tag_of
of_type1 type id size a b c = omega arith

pub of_type2 : (type id size : ℕ) → type < 2 ^ 11 → id < 2 ^ 10 → size < 2 ^ 10
    → tag_type2 (tag_of type id size) ≡ type / 2 ^ 7 * 2 ^ 7
unfolding tag_of
of_type2 type id size a b c = omega arith

pub of_chunk : (type id size : ℕ) → id < 2 ^ 10 → size < 2 ^ 10 → tag_chunk (tag_of type id size) ≡ type % 2 ^ 8
unfolding tag_of
of_chunk type id size b c = omega arith

pub of_id : (type id size : ℕ) → id < 2 ^ 10 → size < 2 ^ 10 → tag_id (tag_of type id size) ≡ id
unfolding tag_of
of_id type id size b c = omega arith

pub of_size : (type id size : ℕ) → size < 2 ^ 10 → tag_size (tag_of type id size) ≡ size
unfolding tag_of
of_size type id size c = omega arith

pub of_valid : (type id size : ℕ) → type < 2 ^ 11 → id < 2 ^ 10 → size < 2 ^ 10 → tag_of type id size < 2 ^ 31
unfolding tag_of
of_valid type id size a b c = omega arith

pub of_length : (type id size : ℕ) → size < removal_size → tag_length (tag_of type id size) ≡ 4 + size
of_length type id size h = length_size (tag_of type id size) (λ q. omega (arith, of_size type id size (omega arith)))
    ∙ ap (λ (n : ℕ). 4 + n) (of_size type id size (omega arith))

-- and a valid tag is made of its fields
pub of_fields : (t : ℕ) → t < 2 ^ 31 → tag_of (tag_type3 t) (tag_id t) (tag_size t) ≡ t
unfolding tag_of
of_fields t h = omega arith
