-- A set of ids by its words: one word set, and then every word from the last one down to an id's. Assumes nothing.
use mathlib.Core.Path.{◌≡◌, refl, ap, ◌∙◌}
use mathlib.Core.Bool.{Bool, true, false}
use mathlib.Core.List.{List}
use Prim.Native.Nat.{ℕ, ◌+◌, ◌*◌, ◌/◌, ◌%◌, ◌<◌, ◌≤◌}
use native.Mathlib.Nat.{lt_irrefl}
use native.Mathlib.Omega.{arith}
use lib.ListN.{length, get_or, set, length-set}
use lib.Seq.{get_or-set_same, get_or-set_other}
use lib.Arith.{digits_div, digits_mod}
use lib.Dec.{eqb, ltb}
use borrow.Author.Tests.{eqb-true, eqb-false, ltb-true, ltb-false}
use Rattle.find_set.specs.Set.{has, Is}
use Rattle.find_set.proofs.Digits.{digit}

-- whether a digit of a word is set
abbrev pub on : ℕ → ℕ → Bool
on w n = eqb (digit w n) 1

pub same_on : {d e : ℕ} → d ≡ e → eqb d 1 ≡ eqb e 1
same_on h = ap (λ (d : ℕ). eqb d 1) h

pub has_at : (a : List ℕ) (i n : ℕ) → n < 32 → has a (i * 32 + n) ≡ on (get_or a i 0) n
unfolding has
has_at a i n h = rw (digits_div i h, digits_mod i h)

-- ---- one word is set
pub set_other : (s : List ℕ) (i v x : ℕ) → (x / 32 ≡ i → ⊥) → has (set s i v) x ≡ has s x
unfolding has
set_other s i v x not = ap (λ (w : ℕ). on w (x % 32)) (get_or-set_other s i (x / 32) v 0 not)

module _ (s : List ℕ) (i v : ℕ) (f : ℕ → Bool) (room : i < length s)
    (word : (n : ℕ) → n < 32 → on v n ≡ f (i * 32 + n)) where
  pub set_has : (x : ℕ) → ((x / 32 ≡ i → ⊥) → has s x ≡ f x) → has (set s i v) x ≡ f x
  unfolding has
  set_has x other = go (eqb (x / 32) i) refl
    where
      go : (b : Bool) → eqb (x / 32) i ≡ b → has (set s i v) x ≡ f x
      go true e =
          let same : x / 32 ≡ i = eqb-true (x / 32) i e in
          let back : i * 32 + x % 32 ≡ x = omega arith in
          ap (λ (w : ℕ). on w (x % 32))
          (ap (λ (j : ℕ). get_or (set s i v) j 0) same ∙ get_or-set_same s i v 0 room)
          ∙ word (x % 32) (omega arith) ∙ ap f back
      go false e = let not = eqb-false (x / 32) i e in set_other s i v x not ∙ other not

-- ---- the words from m on are as f says, and those below it as in a
pub record Moved (f : ℕ → Bool) (a s : List ℕ) (m : ℕ) : Type 0 where
  pub full : length s ≡ 32
  pub done : (x : ℕ) → m * 32 ≤ x → x < 1_024 → has s x ≡ f x
  pub rest : (j : ℕ) → j < m → get_or s j 0 ≡ get_or a j 0

pub moved_start : (f : ℕ → Bool) (a : List ℕ) → length a ≡ 32 → Moved f a a 32
moved_start f a h = record { full = h; done = λ x l u. absurd (lt_irrefl x (omega arith)); rest = λ j l. refl }

pub moved_word : (f : ℕ → Bool) (a s : List ℕ) (i m v : ℕ) → Moved f a s (i + 1) → m ≡ i → i < 32
    → ((n : ℕ) → n < 32 → on v n ≡ f (i * 32 + n)) → Moved f a (set s i v) m
moved_word f a s i m v p e h word = record {
  full = length-set s i v ∙ p.full;
  done = λ x l u. set_has s i v f (omega (arith, p.full)) word x (λ n. p.done x (omega arith) u);
  rest = λ j l. get_or-set_other s i j v 0 (λ q. omega arith) ∙ p.rest j (omega arith);
}

pub moved_end : (f : ℕ → Bool) (a s : List ℕ) (m : ℕ) → Moved f a s m
    → ((x : ℕ) → x < m * 32 → has a x ≡ f x) → Is s f
unfolding has
moved_end f a s m p low x u = go (ltb x (m * 32)) refl
  where
    go : (b : Bool) → ltb x (m * 32) ≡ b → has s x ≡ f x
    go true e =
        let l = ltb-true x (m * 32) e in
        ap (λ (w : ℕ). on w (x % 32)) (p.rest (x / 32) (omega arith)) ∙ low x l
    go false e = p.done x (ltb-false x (m * 32) e) u
