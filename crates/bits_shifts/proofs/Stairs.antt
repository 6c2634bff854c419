-- A staircase of shifts finds the place of a word's highest set digit: `Top w j` says that it is j, or that both are 0.
-- Assumes nothing.
use Rattle.std.proofs.Common.{◌≡◌, ℕ, zero, suc, ◌+◌, ◌-◌, ◌*◌, ◌/◌, ◌%◌, ◌^◌, ◌<◌, ◌≤◌, max, Bool, true, false, ltb, sym, refl, ap, ◌∙◌, le_trans, le_of_eq, lt_irrefl, mod-eq_of_lt, mul_comm, div-lt_iff_lt-mul, one-mul, pow-suc, le-div_iff_mul-le, zero-add, zero-mul, mul_right_comm, div-one, arith, pow_pos, pow-add, shr_lt, lt_of_le_ones, ltb-false, ltb-true}
use native.Mathlib.Nat.{max-eq_right}
use lib.Pow.{pow-lt, suc_ones, split}
use lib.Bits.{bit_or, or_shifted}
use lib.Count.{count_leading_zeros, leading_unique, leading_of_zero}
use mir.Val.{bool_byte}
use Rattle.format.specs.Arith.{npw2}

pub record Top (w j : ℕ) : Type 0 where
  pub low : 2 ^ j ≤ max 1 w
  pub high : w < 2 ^ j * 2

-- shifted up again by k, where a digit was left
up : (k w j : ℕ) → 2 ^ k ≤ w → Top (w / 2 ^ k) j → Top w (k + j)
up k w j p t =
    let some : 1 ≤ w / 2 ^ k = (le-div_iff_mul-le (pow_pos k)).1 (le_trans (le_of_eq (one-mul (2 ^ k))) p) in
    let e : 2 ^ (k + j) ≡ 2 ^ j * 2 ^ k = pow-add 2 k j ∙ mul_comm (2 ^ k) (2 ^ j) in
    let l : 2 ^ j * 2 ^ k ≤ w =
    (le-div_iff_mul-le (pow_pos k)).0 (le_trans t.low (le_of_eq (max-eq_right some))) in
    let h : w < 2 ^ j * 2 * 2 ^ k = (div-lt_iff_lt-mul (pow_pos k)).0 t.high in
    let f : 2 ^ j * 2 * 2 ^ k ≡ 2 ^ j * 2 ^ k * 2 = mul_right_comm (2 ^ j) 2 (2 ^ k) in
    record { low = omega (arith, e, l); high = omega (arith, e, f, h) }

-- whether w has more than 2 ^ e digits, as a digit
abbrev pub digit : ℕ → ℕ → ℕ
digit e w = bool_byte (ltb (2 ^ 2 ^ e - 1) w)

-- what is left of w when it is shifted down by so many where the digit s is 1
abbrev left : ℕ → ℕ → ℕ → ℕ
left e w s = w / 2 ^ (s * 2 ^ e % 2 ^ 32)

-- A step: s is 0 or 1, at most half of the digits are left, and the place is found from theirs.
record Step (e w s : ℕ) : Type 0 where
  pub binary : s < 2
  pub short : left e w s < 2 ^ 2 ^ e
  pub climb : (j : ℕ) → Top (left e w s) j → Top w (s * 2 ^ e + j)

step : (e w s : ℕ) → e < 32 → s ≡ digit e w → w < 2 ^ (2 ^ e + 2 ^ e) → Step e w s
step e w s p q h = go (ltb (2 ^ 2 ^ e - 1) w) refl
  where
    go : (b : Bool) → ltb (2 ^ 2 ^ e - 1) w ≡ b → Step e w s
    go true t =
        let one : s ≡ 1 = q ∙ ap bool_byte t in
        let m : 1 * 2 ^ e ≡ 2 ^ e = one-mul (2 ^ e) in
        let d : 1 * 2 ^ e % 2 ^ 32 ≡ 2 ^ e = ap (λ (n : ℕ). n % 2 ^ 32) m ∙ mod-eq_of_lt (pow-lt p) in
        let some : 2 ^ 2 ^ e ≤ w = omega (arith, suc_ones (2 ^ e), ltb-true (2 ^ 2 ^ e - 1) w t) in
        rw one (record {
          binary = omega arith;
          short = rw d (shr_lt (2 ^ e) (2 ^ e) h);
          climb = λ j. rw d (rw m (up (2 ^ e) w j some));
        })
    go false t =
        let none : s ≡ 0 = q ∙ ap bool_byte t in
        let m : 0 * 2 ^ e ≡ 0 = zero-mul (2 ^ e) in
        let d : 0 * 2 ^ e % 2 ^ 32 ≡ 0 = ap (λ (n : ℕ). n % 2 ^ 32) m in
        rw none (record {
          binary = omega arith;
          short = rw d (rw (div-one w) (lt_of_le_ones (2 ^ e) (ltb-false (2 ^ 2 ^ e - 1) w t)));
          climb = λ j. rw d (rw (div-one w) (rw m (rw (zero-add j) (λ t. t))));
        })

-- two digits at the end
two : (w : ℕ) → w < 4 → Top w (w / 2)
two zero h = record { low = omega arith; high = omega arith }
two (suc zero) h = record { low = omega arith; high = omega arith }
two (suc (suc zero)) h = record { low = omega arith; high = omega arith }
two (suc (suc (suc zero))) h = record { low = omega arith; high = omega arith }
two (suc (suc (suc (suc n)))) h = absurd (lt_irrefl 4 (omega arith))

-- the place and one more are the word's length, which the definition takes from the leading zeros
pub top_npw2 : (a w j : ℕ) → w ≡ (a + 0xffff_ffff) % 2 ^ 32 → j < 32 → Top w j → j + 1 ≡ npw2 a
unfolding npw2
top_npw2 a zero zero e h t = rw (← e) (omega (arith, leading_of_zero 32))
top_npw2 a zero (suc j) e h t = absurd (lt_irrefl 1 (omega (arith, t.low, pow-suc 2 j, pow_pos j)))
top_npw2 a (suc n) j e h t =
    let z : 32 - suc j ≡ count_leading_zeros 32 (suc n) =
    leading_unique 32 (suc n) (32 - suc j) (suc j) (omega arith) (rw (pow-suc 2 j) t.high)
    (rw (pow-suc 2 j) (omega (arith, t.low))) in
    rw (← e) (omega (arith, z))

-- x ends in k zeros, and b has no more digits than they
join : (k x b : ℕ) → x % 2 ^ k ≡ 0 → b < 2 ^ k → bit_or x b ≡ x + b
join k x b z h =
    let e : x ≡ x / 2 ^ k * 2 ^ k = omega (arith, split x k, z) in
    ap (λ (n : ℕ). bit_or n b) e ∙ or_shifted (x / 2 ^ k) k b h ∙ ap (λ (n : ℕ). n + b) (sym e)

-- the digits, each joined in its place
abbrev joined : ℕ → ℕ → ℕ → ℕ → ℕ → ℕ
joined s4 s3 s2 s1 s0 =
    bit_or (bit_or (bit_or (bit_or (s4 * 2 ^ 4 % 2 ^ 32) (s3 * 2 ^ 3 % 2 ^ 32)) (s2 * 2 ^ 2 % 2 ^ 32))
    (s1 * 2 ^ 1 % 2 ^ 32)) s0

joined_is : (s4 s3 s2 s1 s0 : ℕ) → s4 < 2 → s3 < 2 → s2 < 2 → s1 < 2 → s0 < 2
    → joined s4 s3 s2 s1 s0 ≡ s4 * 2 ^ 4 + (s3 * 2 ^ 3 + (s2 * 2 ^ 2 + (s1 * 2 ^ 1 + s0)))
joined_is s4 s3 s2 s1 s0 h4 h3 h2 h1 h0 =
    let u4 = s4 * 2 ^ 4 % 2 ^ 32 in
    let u3 = s3 * 2 ^ 3 % 2 ^ 32 in
    let u2 = s2 * 2 ^ 2 % 2 ^ 32 in
    let u1 = s1 * 2 ^ 1 % 2 ^ 32 in
    let j4 : bit_or u4 u3 ≡ u4 + u3 = join 4 u4 u3 (omega arith) (omega arith) in
    let j3 : bit_or (bit_or u4 u3) u2 ≡ u4 + u3 + u2 =
    ap (λ (n : ℕ). bit_or n u2) j4 ∙ join 3 (u4 + u3) u2 (omega arith) (omega arith) in
    let j2 : bit_or (bit_or (bit_or u4 u3) u2) u1 ≡ u4 + u3 + u2 + u1 =
    ap (λ (n : ℕ). bit_or n u1) j3 ∙ join 2 (u4 + u3 + u2) u1 (omega arith) (omega arith) in
    ap (λ (n : ℕ). bit_or n s0) j2 ∙ join 1 (u4 + u3 + u2 + u1) s0 (omega arith) (omega arith) ∙ omega arith

-- ---- the staircase as it is written, from w down

abbrev pub next : ℕ → ℕ → ℕ
next e w = left e w (digit e w)

abbrev pub place : ℕ → ℕ
place w =
    let a3 = next 4 w in
    let a2 = next 3 a3 in
    let a1 = next 2 a2 in
    joined (digit 4 w) (digit 3 a3) (digit 2 a2) (digit 1 a1) (next 1 a1 / 2 ^ 1)

-- no step shifts by a whole word
pub in_reach : (e w : ℕ) → e < 5 → digit e w * 2 ^ e % 2 ^ 32 < 32
in_reach e w p =
    let h : 2 ^ e < 2 ^ 5 = pow-lt p in
    go (ltb (2 ^ 2 ^ e - 1) w) h
  where
    go : (b : Bool) → 2 ^ e < 32 → bool_byte b * 2 ^ e % 2 ^ 32 < 32
    go true h = omega arith
    go false h = omega arith

pub place_is : (w : ℕ) → w < 2 ^ 32 → Top w (place w) × (place w < 32)
place_is w h =
    let a3 = next 4 w in
    let a2 = next 3 a3 in
    let a1 = next 2 a2 in
    let a0 = next 1 a1 in
    let d4 = step 4 w (digit 4 w) (omega arith) refl h in
    let d3 = step 3 a3 (digit 3 a3) (omega arith) refl d4.short in
    let d2 = step 2 a2 (digit 2 a2) (omega arith) refl d3.short in
    let d1 = step 1 a1 (digit 1 a1) (omega arith) refl d2.short in
    let upper : a0 / 2 < 2 = omega (arith, d1.short) in
    let j = joined_is (digit 4 w) (digit 3 a3) (digit 2 a2) (digit 1 a1) (a0 / 2) d4.binary d3.binary
    d2.binary d1.binary upper in
    rw j (
      d4.climb _ (d3.climb _ (d2.climb _ (d1.climb _ (two a0 d1.short)))),
      omega (arith, d4.binary, d3.binary, d2.binary, d1.binary, upper),
    )
