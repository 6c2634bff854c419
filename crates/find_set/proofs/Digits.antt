-- The digits of a number, lowest first, and what a digit assigned in or taken out at a place makes of them. Assumes
-- nothing.
use mathlib.Core.Path.{◌≡◌, refl, sym, ap, ◌∙◌}
use Prim.Native.Nat.{ℕ, zero, suc, ◌+◌, ◌-◌, ◌*◌, ◌/◌, ◌%◌, ◌^◌, ◌<◌, ◌≤◌}
use native.Mathlib.Nat.{mod-lt, div-one, one-mul, not-suc-le-zero, le_of_suc-le-suc, zero-lt-suc, pow-suc, add-zero}
use native.Mathlib.Nat.{lt_irrefl}
use native.Mathlib.Numerals.{one-add}
use native.Mathlib.Omega.{arith}
use lib.Pow.{pow_pos, split, high, shr-shr, shl_exact}
use lib.Bits.{bit_and, bit_or, and_mask, or_shifted, block_half, block_odd}
use lib.Count.{count_trailing_zeros, under}
use Rattle.find_set.specs.Digit.{opened, closed}

abbrev pub digit : ℕ → ℕ → ℕ
digit w n = w / 2 ^ n % 2

pub digit_zero : (w : ℕ) → digit w 0 ≡ w % 2
digit_zero w = ap (λ (x : ℕ). x % 2) (div-one w)

pub digit_suc : (w n : ℕ) → digit w (suc n) ≡ digit (w / 2) n
digit_suc w n = ap (λ (x : ℕ). x % 2) (ap (λ (x : ℕ). w / 2 ^ x) (sym (one-add n)) ∙ sym (shr-shr w 1 n))

digit_add : (w k n : ℕ) → digit (w / 2 ^ k) n ≡ digit w (k + n)
digit_add w k n = ap (λ (x : ℕ). x % 2) (shr-shr w k n)

-- of a number q * 2 ^ k + r, the digits below place k are r's
digit_low : (q k r n : ℕ) → n < k → digit (q * 2 ^ k + r) n ≡ digit r n
digit_low q zero r n h = absurd (not-suc-le-zero h)
digit_low q (suc k) r zero h = digit_zero (q * 2 ^ suc k + r) ∙ block_odd q k r ∙ sym (digit_zero r)
digit_low q (suc k) r (suc n) h =
    digit_suc (q * 2 ^ suc k + r) n ∙ ap (λ (x : ℕ). digit x n) (block_half q k r)
    ∙ digit_low q k (r / 2) n (le_of_suc-le-suc h)
    ∙ sym (digit_suc r n)

-- and those from there on are q's, if r has no more than k
digit_high : (q k r n : ℕ) → r < 2 ^ k → digit (q * 2 ^ k + r) (k + n) ≡ digit q n
digit_high q k r n h = sym (digit_add (q * 2 ^ k + r) k n) ∙ ap (λ (x : ℕ). digit x n) (high q k h)

pub digit_mod : (w k n : ℕ) → n < k → digit (w % 2 ^ k) n ≡ digit w n
digit_mod w k n h =
    sym (digit_low (w / 2 ^ k) k (w % 2 ^ k) n h) ∙ ap (λ (x : ℕ). digit x n) (split w k)

-- ---- other digits from place k on
module _ (q k w : ℕ) where
  below : (n : ℕ) → n < k → digit (q * 2 ^ k + w % 2 ^ k) n ≡ digit w n
  below n h = digit_low q k (w % 2 ^ k) n h ∙ digit_mod w k n h

  above : (n : ℕ) → digit (q * 2 ^ k + w % 2 ^ k) (k + n) ≡ digit q n
  above n = digit_high q k (w % 2 ^ k) n (mod-lt w (pow_pos k))

module _ (k c w : ℕ) where
  pub opened_below : (n : ℕ) → n < k → digit (opened k c w) n ≡ digit w n
  unfolding opened
  opened_below = below (w / 2 ^ k * 2 + c) k w

  pub opened_at : c < 2 → digit (opened k c w) k ≡ c
  unfolding opened
  opened_at h =
      ap (λ (n : ℕ). digit (opened k c w) n) (sym (add-zero k)) ∙ above (w / 2 ^ k * 2 + c) k w 0
      ∙ digit_zero (w / 2 ^ k * 2 + c) ∙ omega arith

  pub opened_above : c < 2 → (n : ℕ) → k ≤ n → digit (opened k c w) (suc n) ≡ digit w n
  unfolding opened
  opened_above h n l =
      let d = n - k in
      let q = w / 2 ^ k in
      let up : suc n ≡ k + suc d = omega arith in
      let same : k + d ≡ n = omega arith in
      let half : (q * 2 + c) / 2 ≡ q = omega arith in
      ap (λ (x : ℕ). digit (opened k c w) x) up ∙ above (q * 2 + c) k w (suc d) ∙ digit_suc (q * 2 + c) d
      ∙ ap (λ (x : ℕ). digit x d) half ∙ digit_add w k d ∙ ap (digit w) same

module _ (k w : ℕ) where
  pub closed_below : (n : ℕ) → n < k → digit (closed k w) n ≡ digit w n
  unfolding closed
  closed_below = below (w / 2 ^ k / 2) k w

  pub closed_above : (n : ℕ) → k ≤ n → digit (closed k w) n ≡ digit w (suc n)
  unfolding closed
  closed_above n l =
      let d = n - k in
      let same : n ≡ k + d = omega arith in
      let up : k + suc d ≡ suc n = omega arith in
      ap (λ (x : ℕ). digit (closed k w) x) same ∙ above (w / 2 ^ k / 2) k w d ∙ sym (digit_suc (w / 2 ^ k) d)
      ∙ digit_add w k (suc d) ∙ ap (digit w) up

-- a digit assigned above a word
pub wide_below : (c w n : ℕ) → n < 32 → digit (c * 2 ^ 32 + w) n ≡ digit w n
wide_below c w = digit_low c 32 w

pub wide_top : (c w : ℕ) → w < 2 ^ 32 → c < 2 → digit (c * 2 ^ 32 + w) 32 ≡ c
wide_top c w low h = digit_high c 32 w 0 low ∙ digit_zero c ∙ omega arith

-- ---- the code's shifts and masks
pub shifted_one : (k : ℕ) → k < 32 → 1 * 2 ^ k % 2 ^ 64 ≡ 2 ^ k
shifted_one k h = shl_exact 1 k 64 (omega arith) (omega arith) ∙ one-mul (2 ^ k)

pub joined_is : (q w k : ℕ) → k < 32 → q < 2 ^ 33
    → bit_and (bit_or (q * 2 ^ k % 2 ^ 64) (bit_and w (1 * 2 ^ k % 2 ^ 64 - 1))) 0xffff_ffff
    ≡ (q * 2 ^ k + w % 2 ^ k) % 2 ^ 32
joined_is q w k h l =
    let up : q * 2 ^ k % 2 ^ 64 ≡ q * 2 ^ k = shl_exact 33 k 64 l (omega arith) in
    and_mask (bit_or (q * 2 ^ k % 2 ^ 64) (bit_and w (1 * 2 ^ k % 2 ^ 64 - 1))) 32
    ∙ rw (up, shifted_one k h, and_mask w k, or_shifted q k (w % 2 ^ k) (mod-lt w (pow_pos k)))

-- ---- the lowest set digit
pub record Lowest (m w t : ℕ) : Type 0 where
  pub less : t < m
  pub set : digit w t ≡ 1
  pub clear : (n : ℕ) → n < t → digit w n ≡ 0

pub trailing : (m w : ℕ) → 0 < w → w < 2 ^ m → Lowest m w (count_trailing_zeros m w)
unfolding count_trailing_zeros
trailing zero w p h = absurd (lt_irrefl 0 (omega arith))
trailing (suc m) w p h = go (w % 2) refl (trailing m (w / 2))
  where
    go : (d : ℕ) → w % 2 ≡ d → (0 < w / 2 → w / 2 < 2 ^ m → Lowest m (w / 2) (count_trailing_zeros m (w / 2)))
        → Lowest (suc m) w (under d (count_trailing_zeros m (w / 2)))
    go zero e rest =
        let r = rest (omega arith) (omega (arith, pow-suc 2 m)) in
        let t = count_trailing_zeros m (w / 2) in
        record { less = omega (arith, r.less); set = digit_suc w t ∙ r.set; clear = clear r.clear }
      where
        clear : ((n : ℕ) → n < count_trailing_zeros m (w / 2) → digit (w / 2) n ≡ 0) → (n : ℕ)
            → n < suc (count_trailing_zeros m (w / 2)) → digit w n ≡ 0
        clear f zero l = digit_zero w ∙ e
        clear f (suc n) l = digit_suc w n ∙ f n (le_of_suc-le-suc l)
    go (suc d) e rest = record {
      less = zero-lt-suc m;
      set = digit_zero w ∙ omega arith;
      clear = λ n l. absurd (not-suc-le-zero l);
    }
