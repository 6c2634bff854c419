-- A slot made or removed, by words: what each word becomes, and the turns of the two loops. Assumes nothing.
use mathlib.Core.Path.{◌≡◌, refl, sym, ap, ◌∙◌}
use mathlib.Core.Bool.{Bool, true, false}
use mathlib.Core.List.{List}
use Prim.Native.Nat.{ℕ, suc, ◌+◌, ◌-◌, ◌*◌, ◌/◌, ◌%◌, ◌^◌, ◌<◌, ◌≤◌}
use native.Mathlib.Omega.{arith}
use native.Mathlib.Numerals.{add-one}
use lib.ListN.{length, get_or, set, get_or-eq_default}
use lib.Dec.{eqb, ltb}
use borrow.Author.Tests.{eq-eqb, ne_eqb, eqb-true, eqb-false, lt-ltb, le-ltb, ltb-true, ltb-false}
use Rattle.find_set.specs.Set.{has, Is, made, removed}
use Rattle.find_set.specs.Digit.{opened, closed}
use Rattle.find_set.proofs.Digits.{digit, digit_zero, digit_mod, opened_below, opened_at, opened_above}
use Rattle.find_set.proofs.Digits.{closed_below, closed_above, wide_below, wide_top}
use Rattle.find_set.proofs.Words.{on, same_on, has_at, Moved, moved_word, moved_end}

-- ---- what becomes of an id, by where it stands
module _ (j : ℕ) (f : ℕ → Bool) where
  made_below : (x : ℕ) → x < j → made j f x ≡ f x
  unfolding made
  made_below x h = rw (lt-ltb x j h)

  made_at : made j f j ≡ false
  unfolding made
  made_at = rw (le-ltb j j (omega arith), eq-eqb j j refl)

  made_above : (x : ℕ) → j ≤ x → made j f (x + 1) ≡ f x
  unfolding made
  made_above x h =
      let back : x + 1 - 1 ≡ x = omega arith in
      rw (le-ltb (x + 1) j (omega arith), ne_eqb (x + 1) j (λ q. omega arith), back)

  removed_below : (x : ℕ) → x < j → removed j f x ≡ f x
  unfolding removed
  removed_below x h = rw (lt-ltb x j h)

  removed_above : (x : ℕ) → j ≤ x → removed j f x ≡ f (x + 1)
  unfolding removed
  removed_above x h = rw (le-ltb x j h, add-one x)

-- ---- a digit is assigned in at place k of word i
module _ (a : List ℕ) (id i k c : ℕ) (few : c < 2) (lo : (n : ℕ) → n < k → i * 32 + n < id)
    (hi : id ≤ i * 32 + k) (new : eqb c 1 ≡ made id (has a) (i * 32 + k)) where
  made_word : (n : ℕ) → n < 32 → on (opened k c (get_or a i 0) % 2 ^ 32) n ≡ made id (has a) (i * 32 + n)
  made_word n h = same_on (digit_mod (opened k c (get_or a i 0)) 32 n h) ∙ go (ltb n k) refl (eqb n k) refl
    where
      go : (b : Bool) → ltb n k ≡ b → (e : Bool) → eqb n k ≡ e
          → on (opened k c (get_or a i 0)) n ≡ made id (has a) (i * 32 + n)
      go true l e q =
          let less = ltb-true n k l in
          same_on (opened_below k c (get_or a i 0) n less) ∙ sym (has_at a i n h)
          ∙ sym (made_below id (has a) (i * 32 + n) (lo n less))
      go false l true q =
          let same = eqb-true n k q in
          same_on (ap (digit (opened k c (get_or a i 0))) same ∙ opened_at k c (get_or a i 0) few) ∙ new
          ∙ ap (λ (x : ℕ). made id (has a) (i * 32 + x)) (sym same)
      go false l false q =
          let m = n - 1 in
          let not = eqb-false n k q in
          let more = ltb-false n k l in
          let up : n ≡ suc m = omega arith in
          let back : i * 32 + m + 1 ≡ i * 32 + n = omega arith in
          same_on (ap (digit (opened k c (get_or a i 0))) up ∙ opened_above k c (get_or a i 0) few m (omega arith))
          ∙ sym (has_at a i m (omega arith)) ∙ sym (made_above id (has a) (i * 32 + m) (omega arith))
          ∙ ap (made id (has a)) back

-- ---- a digit is taken out at place k of word i, and one comes in at the top
module _ (a : List ℕ) (id i k c : ℕ) (few : c < 2) (lo : (n : ℕ) → n < k → i * 32 + n < id)
    (hi : id ≤ i * 32 + k) (fits : get_or a i 0 < 2 ^ 32) (next : eqb c 1 ≡ has a (i * 32 + 32)) where
  removed_word : (n : ℕ) → n < 32
      → on (closed k (c * 2 ^ 32 + get_or a i 0) % 2 ^ 32) n ≡ removed id (has a) (i * 32 + n)
  removed_word n h =
      same_on (digit_mod (closed k (c * 2 ^ 32 + get_or a i 0)) 32 n h)
      ∙ go (ltb n k) refl (ltb n 31) refl
    where
      go : (b : Bool) → ltb n k ≡ b → (e : Bool) → ltb n 31 ≡ e
          → on (closed k (c * 2 ^ 32 + get_or a i 0)) n ≡ removed id (has a) (i * 32 + n)
      go true l e q =
          let less = ltb-true n k l in
          same_on (closed_below k (c * 2 ^ 32 + get_or a i 0) n less ∙ wide_below c (get_or a i 0) n h)
          ∙ sym (has_at a i n h) ∙ sym (removed_below id (has a) (i * 32 + n) (lo n less))
      go false l true q =
          let less = ltb-true n 31 q in
          let more = ltb-false n k l in
          let up : i * 32 + suc n ≡ i * 32 + n + 1 = omega arith in
          same_on (closed_above k (c * 2 ^ 32 + get_or a i 0) n more
          ∙ wide_below c (get_or a i 0) (suc n) (omega arith))
          ∙ sym (has_at a i (suc n) (omega arith)) ∙ ap (has a) up
          ∙ sym (removed_above id (has a) (i * 32 + n) (omega arith))
      go false l false q =
          let most = ltb-false n 31 q in
          let more = ltb-false n k l in
          let top : suc n ≡ 32 = omega arith in
          let up : i * 32 + 32 ≡ i * 32 + n + 1 = omega arith in
          same_on (closed_above k (c * 2 ^ 32 + get_or a i 0) n more ∙ ap (digit (c * 2 ^ 32 + get_or a i 0)) top
          ∙ wide_top c (get_or a i 0) fits few)
          ∙ next ∙ ap (has a) up ∙ sym (removed_above id (has a) (i * 32 + n) (omega arith))

-- ---- the turns of a slot made: the word above the id's, and the id's
module _ (a s : List ℕ) (id i : ℕ) (p : Moved (made id (has a)) a s (i + 1)) where
  opened_moved : (k c m : ℕ) → c < 2 → ((n : ℕ) → n < k → i * 32 + n < id) → id ≤ i * 32 + k
      → eqb c 1 ≡ made id (has a) (i * 32 + k) → m ≡ i → i < 32
      → Moved (made id (has a)) a (set s i (opened k c (get_or s i 0) % 2 ^ 32)) m
  opened_moved k c m few lo hi new e h =
      rw (p.rest i (omega arith))
      (moved_word (made id (has a)) a s i m (opened k c (get_or a i 0) % 2 ^ 32) p e h
      (made_word a id i k c few lo hi new))

  pub up_turn : (m : ℕ) → m ≡ i → id < i * 32 → i < 32 → get_or s (i - 1) 0 < 2 ^ 32 → (s' : List ℕ)
      → s' ≡ set s i (opened 0 (get_or s (i - 1) 0 / 2 ^ 31) (get_or s i 0) % 2 ^ 32) → Moved (made id (has a)) a s' m
  up_turn m e l h fits s' q =
      let j = i - 1 in
      let x = j * 32 + 31 in
      let w = get_or s j 0 in
      let one : w / 2 ^ 31 ≡ digit w 31 = omega arith in
      let up : x + 1 ≡ i * 32 + 0 = omega arith in
      let new : eqb (w / 2 ^ 31) 1 ≡ made id (has a) (i * 32 + 0) =
      same_on (one ∙ ap (λ (v : ℕ). digit v 31) (p.rest j (omega arith)))
      ∙ sym (has_at a j 31 (omega arith)) ∙ sym (made_above id (has a) x (omega arith))
      ∙ ap (made id (has a)) up in
      rw q (opened_moved 0 (w / 2 ^ 31) m (omega arith) (λ n z. omega arith) (omega arith) new e h)

  pub up_end : i ≡ id / 32 → id < 1_024 → (s' : List ℕ)
      → s' ≡ set s (id / 32) (opened (id % 32) 0 (get_or s (id / 32) 0) % 2 ^ 32) → Is s' (made id (has a))
  up_end e h s' q =
      let at : i * 32 + id % 32 ≡ id = omega arith in
      let new : eqb 0 1 ≡ made id (has a) (i * 32 + id % 32) =
      sym (ap (made id (has a)) at ∙ made_at id (has a)) in
      moved_end (made id (has a)) a s' i
      (rw (q, ← e) (opened_moved (id % 32) 0 i (omega arith) (λ n z. omega arith) (omega arith) new refl (omega arith)))
      (λ x l. sym (made_below id (has a) x (omega arith)))

-- ---- and those of a slot removed: c is the lowest digit of the word above
pub down_start : (a : List ℕ) → length a ≡ 32 → eqb 0 1 ≡ has a (31 * 32 + 32)
unfolding has
down_start a h = rw (get_or-eq_default a 0 {n = 32} (omega arith))

module _ (a s : List ℕ) (id i c : ℕ) (p : Moved (removed id (has a)) a s (i + 1)) (few : c < 2)
    (next : eqb c 1 ≡ has a (i * 32 + 32)) (fits : get_or a i 0 < 2 ^ 32) where
  closed_moved : (k m : ℕ) → ((n : ℕ) → n < k → i * 32 + n < id) → id ≤ i * 32 + k → m ≡ i → i < 32
      → Moved (removed id (has a)) a (set s i (closed k (c * 2 ^ 32 + get_or s i 0) % 2 ^ 32)) m
  closed_moved k m lo hi e h =
      rw (p.rest i (omega arith))
      (moved_word (removed id (has a)) a s i m (closed k (c * 2 ^ 32 + get_or a i 0) % 2 ^ 32) p e h
      (removed_word a id i k c few lo hi fits next))

  pub down_turn : (m : ℕ) → m ≡ i → id < i * 32 → i < 32 → (s' : List ℕ)
      → s' ≡ set s i (closed 0 (c * 2 ^ 32 + get_or s i 0) % 2 ^ 32) → Moved (removed id (has a)) a s' m
  down_turn m e l h s' q = rw q (closed_moved 0 m (λ n z. omega arith) (omega arith) e h)

  pub down_carry : (x : ℕ) → x ≡ i * 32 → eqb (get_or s i 0 % 2) 1 ≡ has a x
  down_carry x e =
      let at : i * 32 + 0 ≡ x = omega arith in
      same_on (ap (λ (w : ℕ). w % 2) (p.rest i (omega arith)) ∙ sym (digit_zero (get_or a i 0)))
      ∙ sym (has_at a i 0 (omega arith)) ∙ ap (has a) at

  pub down_end : i ≡ id / 32 → id < 1_024 → (s' : List ℕ)
      → s' ≡ set s (id / 32) (closed (id % 32) (c * 2 ^ 32 + get_or s (id / 32) 0) % 2 ^ 32)
      → Is s' (removed id (has a))
  down_end e h s' q =
      moved_end (removed id (has a)) a s' i
      (rw (q, ← e) (closed_moved (id % 32) i (λ n z. omega arith) (omega arith) refl (omega arith)))
      (λ x l. sym (removed_below id (has a) x (omega arith)))
