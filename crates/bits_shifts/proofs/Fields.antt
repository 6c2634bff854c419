-- Counting a word's set digits by adding neighbouring fields: the sum of a word's fields of k digits is the sum of its
-- fields of k + k digits once each is replaced by the sum of its two halves. First such pairings, then the Rust's own
-- lines. Assumes nothing.
use Rattle.std.proofs.Common.{◌≡◌, ℕ, zero, suc, ◌+◌, ◌-◌, ◌*◌, ◌/◌, ◌%◌, ◌^◌, ◌<◌, ◌≤◌, sym, refl, ap, ◌∙◌, subst, ap₂, lt_of_lt_of_le, le-add_right, add_assoc, mod-lt, add-mul, mul-le-mul_left, pow-suc, arith, pow_pos, pow_mono, pow-add, shr-shr}
use native.Mathlib.Nat.{zero-mod}
use lib.Arith.{digits_div, digits_mod, lt-one}
use lib.Pow.{split, mod-mod-pow, ones_lt, le_ones}
use lib.Bits.{bit_and, and_block, and_mask, and_zero_r, and_le_r}
use lib.Count.{ones, ones_in, ones_step}

-- the fields of y that a mask keeps, and those k digits up, added
unfoldable halves_added : ℕ → ℕ → ℕ → ℕ
halves_added k mask y = bit_and y mask + bit_and (y / 2 ^ k) mask

-- the sum of the m low fields of k digits
unfoldable sum : ℕ → ℕ → ℕ → ℕ
sum k zero x = zero
sum k (suc m) x = x % 2 ^ k + sum k m (x / 2 ^ k)

-- the k low digits of each of m fields of k + k
unfoldable evens : ℕ → ℕ → ℕ
evens k zero = zero
evens k (suc m) = evens k m * 2 ^ (k + k) + (2 ^ k - 1)

low_field : (k y e : ℕ)
    → bit_and y (e * 2 ^ (k + k) + (2 ^ k - 1)) ≡ bit_and (y / 2 ^ (k + k)) e * 2 ^ (k + k) + y % 2 ^ k
low_field k y e =
    ap (λ (n : ℕ). bit_and n (e * 2 ^ (k + k) + (2 ^ k - 1))) (sym (split y (k + k)))
    ∙ and_block (k + k) (y / 2 ^ (k + k)) e (y % 2 ^ (k + k)) (2 ^ k - 1) (mod-lt y (pow_pos (k + k)))
    (lt_of_lt_of_le (ones_lt k) (pow_mono (le-add_right k k)))
    ∙ ap (λ (n : ℕ). bit_and (y / 2 ^ (k + k)) e * 2 ^ (k + k) + n) (and_mask (y % 2 ^ (k + k)) k ∙ mod-mod-pow y k k)

-- one field more: the sum of its halves stands in it, and the rest of the word is paired as before
pair_step : (k m y : ℕ) → halves_added k (evens k (suc m)) y ≡ halves_added k (evens k m) (y / 2 ^ (k + k)) * 2 ^ (k + k)
    + (y % 2 ^ k + y / 2 ^ k % 2 ^ k)
unfolding halves_added evens
pair_step k m y =
    let e = evens k m in
    let p = 2 ^ (k + k) in
    let swap : y / 2 ^ k / p ≡ y / p / 2 ^ k = shr-shr y k (k + k) ∙ ap (λ (n : ℕ). y / 2 ^ n) (sym (add_assoc k k k))
    ∙ sym (shr-shr y (k + k) k) in
    ap₂ (λ (u v : ℕ). u + v) (low_field k y e) (low_field k (y / 2 ^ k) e)
    ∙ ap (λ (n : ℕ). bit_and (y / p) e * p + y % 2 ^ k + (bit_and n e * p + y / 2 ^ k % 2 ^ k)) swap
    ∙ gather (bit_and (y / p) e) (bit_and (y / p / 2 ^ k) e) p (y % 2 ^ k) (y / 2 ^ k % 2 ^ k)
  where
    gather : (a b q u v : ℕ) → (a * q + u) + (b * q + v) ≡ (a + b) * q + (u + v)
    gather a b q u v = rw (add-mul a b q) (omega arith)

-- the halves' sum has room
room : (k x y : ℕ) → 0 < k → x < 2 ^ k → y < 2 ^ k → x + y < 2 ^ (k + k)
room (suc k) x y p hx hy =
    let e : 2 ^ (suc k + suc k) ≡ 2 ^ suc k * 2 ^ suc k = pow-add 2 (suc k) (suc k) in
    let f : 2 ^ suc k * 2 ≤ 2 ^ suc k * 2 ^ suc k =
    mul-le-mul_left (2 ^ suc k) (pow_mono {i = 1} {j = suc k} (omega arith)) in
    omega (arith, e, f)
room zero x y p hx hy = elim p [ ]

-- twice m, so that a count of 2 m fields unfolds two at a time
unfoldable twice : ℕ → ℕ
twice zero = zero
twice (suc m) = suc (suc (twice m))

pair_sum : (k m y : ℕ) → 0 < k → sum (k + k) m (halves_added k (evens k m) y) ≡ sum k (twice m) y
unfolding sum twice
pair_sum k zero y p = refl
pair_sum k (suc m) y p =
    let d = y % 2 ^ k + y / 2 ^ k % 2 ^ k in
    let l : d < 2 ^ (k + k) = room k (y % 2 ^ k) (y / 2 ^ k % 2 ^ k) p (mod-lt y (pow_pos k))
    (mod-lt (y / 2 ^ k) (pow_pos k)) in
    let q = halves_added k (evens k m) (y / 2 ^ (k + k)) in
    ap (λ (n : ℕ). n % 2 ^ (k + k) + sum (k + k) m (n / 2 ^ (k + k))) (pair_step k m y)
    ∙ ap₂ (λ (u v : ℕ). u + sum (k + k) m v) (digits_mod q l) (digits_div q l)
    ∙ ap (λ (n : ℕ). d + n) (pair_sum k m (y / 2 ^ (k + k)) p ∙ ap (sum k (twice m)) (sym (shr-shr y k k)))
    ∙ add_assoc (y % 2 ^ k) (y / 2 ^ k % 2 ^ k) (sum k (twice m) (y / 2 ^ k / 2 ^ k))

-- fields of one digit: the set digits
ones_sum : (n x : ℕ) → x < 2 ^ n → sum 1 n x ≡ ones x
unfolding sum ones ones_in
ones_sum zero x h = ap ones (sym (lt-one h))
ones_sum (suc n) x h = ap (λ (k : ℕ). x % 2 + k) (ones_sum n (x / 2) (omega (arith, pow-suc 2 n))) ∙ sym (ones_step x)

-- ---- what the Rust's lines have in place of plain pairings

-- The first: a word is its even digits and twice its odd ones, so that the odd ones taken off leave both, added.
twos : (m y : ℕ) → y < 4 ^ m → bit_and y (evens 1 m) + bit_and (y / 2) (evens 1 m) * 2 ≡ y
unfolding evens
twos zero y h = rw (lt-one h) refl
twos (suc m) y h =
    let rest = twos m (y / 4) (omega (arith, pow-suc 4 m)) in
    let swap : y / 2 / 4 ≡ y / 4 / 2 = omega arith in
    let odd = ap (λ (n : ℕ). bit_and n (evens 1 m)) swap in
    omega (arith, low_field 1 y (evens 1 m), low_field 1 (y / 2) (evens 1 m), rest, odd)

-- each of the m fields of k digits is at most b, and nothing stands above them
unfoldable Within : ℕ → ℕ → ℕ → ℕ → Type 0
Within k b zero x = x ≡ 0
Within k b (suc m) x = (x % 2 ^ k ≤ b) × Within k b m (x / 2 ^ k)

first : (k b m x : ℕ) → Within k b m x → x % 2 ^ k ≤ b
unfolding Within
first k b zero x h = rw h (rw (zero-mod (2 ^ k)) (omega arith))
first k b (suc m) x h = h.0

none : (k y : ℕ) → halves_added k (evens k 0) y ≡ 0
unfolding halves_added evens
none k y = ap₂ (λ (u v : ℕ). u + v) (and_zero_r y) (and_zero_r (y / 2 ^ k))

-- a pairing's fields
pair_within : (k m y : ℕ) → 0 < k → Within (k + k) ((2 ^ k - 1) + (2 ^ k - 1)) m (halves_added k (evens k m) y)
unfolding Within
pair_within k zero y p = none k y
pair_within k (suc m) y p =
    let lo = mod-lt y (pow_pos k) in
    let hi = mod-lt (y / 2 ^ k) (pow_pos k) in
    let l = room k (y % 2 ^ k) (y / 2 ^ k % 2 ^ k) p lo hi in
    let q = halves_added k (evens k m) (y / 2 ^ (k + k)) in
    rw (pair_step k m y) (rw (digits_mod q l) (rw (digits_div q l)
    (omega (arith, le_ones k lo, le_ones k hi), pair_within k m (y / 2 ^ (k + k)) p)))

-- fields of four digits, none above 6, and each with the next one added: no sum runs over
sum_low : (x : ℕ) → x % 16 ≤ 6 → x / 16 % 16 ≤ 6 → (x + x / 16) % 16 ≡ x % 16 + x / 16 % 16
sum_low x l h = omega arith

sum_high : (x : ℕ) → x % 16 ≤ 6 → x / 16 % 16 ≤ 6 → x / 256 % 16 ≤ 6 → (x + x / 16) / 256 ≡ x / 256 + x / 256 / 16
sum_high x l h n =
    let q = x / 256 in
    let rest = q % 16 * 16 + x / 16 % 16 * 17 + x % 16 in
    let whole : x + x / 16 ≡ (q + q / 16) * 256 + rest = omega arith in
    ap (λ (n : ℕ). n / 256) whole ∙ digits_div (q + q / 16) (omega arith)

-- The third: such fields are added first and masked then.
bytes : (m x : ℕ) → Within 4 6 (twice m) x → bit_and (x + x / 2 ^ 4) (evens 4 m) ≡ halves_added 4 (evens 4 m) x
unfolding Within twice evens
bytes zero x h = and_zero_r (x + x / 2 ^ 4) ∙ sym (none 4 x)
bytes (suc m) x h =
    let deeper : Within 4 6 (twice m) (x / 256) = subst (Within 4 6 (twice m)) (shr-shr x 4 4) h.1.1 in
    let lo = sum_low x h.0 h.1.0 in
    let hi = sum_high x h.0 h.1.0 (first 4 6 (twice m) (x / 256) deeper) in
    low_field 4 (x + x / 16) (evens 4 m) ∙ ap₂ (λ (u v : ℕ). bit_and u (evens 4 m) * 256 + v) hi lo
    ∙ ap (λ (n : ℕ). n * 256 + (x % 16 + x / 16 % 16)) (bytes m (x / 256) deeper)
    ∙ sym (pair_step 4 m x)

-- The last: four bytes, none above 30, times 0x0101_0101: the fourth byte of the product is the bytes' sum.
product : (y : ℕ) → Within 8 30 4 y → bit_and (y * 0x0101_0101 / 2 ^ 24) 0xff ≡ sum 8 4 y
unfolding Within sum
product y h =
    let b0 : y % 256 ≤ 30 = h.0 in
    let b1 : y / 256 % 256 ≤ 30 = h.1.0 in
    let b2 : y / 256 / 256 % 256 ≤ 30 = h.1.1.0 in
    let b3 : y / 256 / 256 / 256 % 256 ≤ 30 = h.1.1.1.0 in
    let end : y / 256 / 256 / 256 / 256 ≡ 0 = h.1.1.1.1 in
    let c0 = y % 256 in
    let c1 = y / 256 % 256 in
    let c2 = y / 256 / 256 % 256 in
    let c3 = y / 256 / 256 / 256 in
    let above = c1 + c2 + c3 + (c2 + c3) * 256 + c3 * 65536 in
    let below = c0 + (c0 + c1) * 256 + (c0 + c1 + c2) * 65536 in
    let whole : y * 0x0101_0101 ≡ (above * 256 + (c0 + c1 + c2 + c3)) * 2 ^ 24 + below = omega arith in
    and_mask (y * 0x0101_0101 / 2 ^ 24) 8
    ∙ ap (λ (n : ℕ). n / 2 ^ 24 % 256) whole
    ∙ ap (λ (n : ℕ). n % 256) (digits_div (above * 256 + (c0 + c1 + c2 + c3)) (omega arith))
    ∙ digits_mod above (omega arith)
    ∙ omega arith

-- ---- the lines, one after the other

abbrev pub twos_of : ℕ → ℕ
twos_of a = a - bit_and (a / 2 ^ 1) 0x5555_5555

abbrev fours_of : ℕ → ℕ
fours_of a = bit_and (twos_of a) 0x3333_3333 + bit_and (twos_of a / 2 ^ 2) 0x3333_3333

pub popc_is : (a w : ℕ) → a < 2 ^ 32 → w ≡ (fours_of a + fours_of a / 2 ^ 4) % 2 ^ 32
    → bit_and (bit_and w 0x0f0f_0f0f * 0x0101_0101 / 2 ^ 24) 0xff ≡ ones a
unfolding evens twice sum halves_added
popc_is a w h e =
    let x = twos_of a in
    let y = fours_of a in
    let two : x ≡ halves_added 1 0x5555_5555 a = omega (arith, twos 16 a h) in
    let no_wrap : w ≡ y + y / 2 ^ 4 =
    omega (arith, e, and_le_r x 0x3333_3333, and_le_r (x / 2 ^ 2) 0x3333_3333) in
    let z : bit_and w 0x0f0f_0f0f ≡ halves_added 4 0x0f0f_0f0f y =
    ap (λ (n : ℕ). bit_and n 0x0f0f_0f0f) no_wrap ∙ bytes 4 y (pair_within 2 8 x (omega arith)) in
    ap (λ (n : ℕ). bit_and (n * 0x0101_0101 / 2 ^ 24) 0xff) z
    ∙ product (halves_added 4 0x0f0f_0f0f y) (pair_within 4 4 y (omega arith))
    ∙ pair_sum 4 4 y (omega arith) ∙ pair_sum 2 8 x (omega arith) ∙ ap (sum 2 16) two ∙ pair_sum 1 16 a (omega arith)
    ∙ ones_sum 32 a h
