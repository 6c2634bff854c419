-- `a & -a` is a's lowest set digit, 2 to the number of its trailing zeros. Assumes nothing.
use Rattle.std.proofs.Common.{◌≡◌, ℕ, zero, suc, ◌+◌, ◌-◌, ◌*◌, ◌/◌, ◌%◌, ◌^◌, ◌<◌, ◌≤◌, min, sym, refl, ap, ◌∙◌, ap₂, le_trans, le_of_eq, le_of_suc-le-suc, not-suc-le-zero, lt_of_le_of_lt, lt_irrefl, mod-lt, zero-lt-suc, pow-suc, lt_of_not-le, arith, pow_pos, pow_mono}
use native.Mathlib.Nat.{le-max_right}
use lib.Arith.{lt-one}
use lib.Bits.{bit_and, and_step, and_le_l}
use lib.Count.{count_leading_zeros, count_trailing_zeros, under}
use Rattle.format.specs.Arith.{npw2, ctz}
use Rattle.bits_shifts.proofs.Stairs.{top_npw2}

-- a number and its complement have no digit in common
apart : (k b : ℕ) → b < 2 ^ k → bit_and b (2 ^ k - 1 - b) ≡ 0
apart zero b h = ap (λ (x : ℕ). bit_and x (2 ^ 0 - 1 - x)) (lt-one h)
apart (suc k) b h =
    let e : 2 ^ suc k ≡ 2 ^ k * 2 = pow-suc 2 k in
    let hi : (2 ^ suc k - 1 - b) / 2 ≡ 2 ^ k - 1 - b / 2 = omega arith in
    let lo : (2 ^ suc k - 1 - b) % 2 ≡ 1 - b % 2 = omega arith in
    let z : min (b % 2) (1 - b % 2) ≡ 0 = omega arith in
    and_step b (2 ^ suc k - 1 - b) ∙ ap₂ (λ (x y : ℕ). bit_and (b / 2) x * 2 + min (b % 2) y) hi lo
    ∙ ap₂ (λ (x y : ℕ). x * 2 + y) (apart k (b / 2) (omega arith)) z

pub lowest : (k a : ℕ) → 0 < a → a < 2 ^ k → bit_and a (2 ^ k - a) ≡ 2 ^ count_trailing_zeros k a
unfolding count_trailing_zeros
lowest zero a p h = absurd (lt_irrefl 0 (omega arith))
lowest (suc k) a p h = go (lowest k (a / 2)) (a % 2) refl (mod-lt a (zero-lt-suc 1)) (pow-suc 2 k)
  where
    go : (0 < a / 2 → a / 2 < 2 ^ k → bit_and (a / 2) (2 ^ k - a / 2) ≡ 2 ^ count_trailing_zeros k (a / 2)) → (d : ℕ)
        → a % 2 ≡ d → d < 2 → 2 ^ suc k ≡ 2 ^ k * 2
        → bit_and a (2 ^ suc k - a) ≡ 2 ^ under (a % 2) (count_trailing_zeros k (a / 2))
    go rest zero f l e =
        let hi : (2 ^ suc k - a) / 2 ≡ 2 ^ k - a / 2 = omega arith in
        let lo : (2 ^ suc k - a) % 2 ≡ 0 = omega arith in
        let z : min (a % 2) 0 ≡ 0 = omega arith in
        and_step a (2 ^ suc k - a) ∙ ap₂ (λ (x y : ℕ). bit_and (a / 2) x * 2 + min (a % 2) y) hi lo
        ∙ ap₂ (λ (x y : ℕ). x * 2 + y) (rest (omega arith) (omega arith)) z
        ∙ rw f (simp (pow-suc, native.Mathlib.Nat.add-zero))
    go rest (suc zero) f l e =
        let hi : (2 ^ suc k - a) / 2 ≡ 2 ^ k - 1 - a / 2 = omega arith in
        let lo : (2 ^ suc k - a) % 2 ≡ 1 = omega arith in
        let z : min (a % 2) 1 ≡ 1 = omega arith in
        and_step a (2 ^ suc k - a) ∙ ap₂ (λ (x y : ℕ). bit_and (a / 2) x * 2 + min (a % 2) y) hi lo
        ∙ ap₂ (λ (x y : ℕ). x * 2 + y) (apart k (a / 2) (omega arith)) z
        ∙ rw f
    go rest (suc (suc d)) f l e = absurd (not-suc-le-zero (le_of_suc-le-suc (le_of_suc-le-suc l)))

-- one more than a's lowest set digit, and the staircase over it
pub ctz_is : (a m : ℕ) → a < 2 ^ 32 → m < 2 ^ 32 → (m + a) % 2 ^ 32 ≡ 0 → npw2 ((bit_and a m + 1) % 2 ^ 32) - 1 ≡ ctz a
unfolding ctz npw2 count_leading_zeros
ctz_is zero m h hm e = refl
ctz_is (suc n) m h hm e =
    let a = suc n in
    let t = count_trailing_zeros 32 a in
    let f : m ≡ 2 ^ 32 - a = omega arith in
    let low : bit_and a m ≡ 2 ^ t = ap (bit_and a) f ∙ lowest 32 a (zero-lt-suc n) h in
    let b : 2 ^ t < 2 ^ 32 = lt_of_le_of_lt (le_trans (le_of_eq (sym low)) (and_le_l a m)) h in
    let l : t < 32 = lt_of_not-le (λ (g : 32 ≤ t). lt_irrefl (2 ^ 32)
    (lt_of_le_of_lt (pow_mono {i = 32} {j = t} g) b)) in
    let q : t + 1 ≡ npw2 ((bit_and a m + 1) % 2 ^ 32) =
    top_npw2 ((bit_and a m + 1) % 2 ^ 32) (2 ^ t) t (omega (arith, low, b, pow_pos t)) l
    (record { low = le-max_right 1 (2 ^ t); high = omega (arith, pow_pos t) }) in
    omega (arith, q)

pub npw2_pos : (a : ℕ) → 1 ≤ npw2 a
unfolding npw2
npw2_pos a = omega arith
