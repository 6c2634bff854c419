-- Stores join: a store by the tests that the code makes, bytes by bytes, and a whole run as the library's `paste`.
-- Assumes nothing.
use mathlib.Core.Path.{◌≡◌, refl, sym, ap, ◌∙◌}
use mathlib.Core.Bool.{Bool, true, false, cond}
use mathlib.Core.List.{List, [], ◌∷◌, ◌++◌}
use Prim.Native.Nat.{ℕ, ◌+◌, ◌≤◌, ◌<◌}
use native.Mathlib.Numerals.{add-one}
use lib.ListN.{length, get_or, take, length-set}
use lib.Seq.{take-suc}
use lib.Dec.{eqb, leb}
use borrow.Author.Tests.{eq-eqb, ne_eqb, le-leb, lt-leb}
use Rattle.commit_lay.specs.Laid.{Laid, laid, moved, put_of, puts_of}
use Rattle.commit_lay.specs.declared.Run.{Run}

-- ---- one store
module _ (w : Run) (b : List ℕ) (x : ℕ) where
  pub put_none : w.left ≡ 0 → laid w b ≡ put_of (laid w b) x
  unfolding put_of
  put_none h = rw (eq-eqb w.left 0 h)

  pub put_past : (w.left ≡ 0 → ⊥) → length b ≤ w.at → laid w b ≡ put_of (laid w b) x
  unfolding put_of
  put_past h k = rw (ne_eqb w.left 0 h, le-leb (length b) w.at k)

  pub put_one : (w.left ≡ 0 → ⊥) → w.at < length b → moved (laid w b) x ≡ put_of (laid w b) x
  unfolding put_of
  put_one h k = rw (ne_eqb w.left 0 h, lt-leb (length b) w.at k)

-- a block keeps its length
put_length : (s : Laid) (x : ℕ) → length (put_of s x).block ≡ length s.block
unfolding put_of
put_length s x = go (eqb s.run.left 0) (leb (length s.block) s.run.at)
  where
    go : (p q : Bool) → length (cond p s (cond q s (moved s x))).block ≡ length s.block
    go true q = refl
    go false true = refl
    go false false = length-set s.block s.run.at x

pub puts_length : (xs : List ℕ) (s : Laid) → length (puts_of s xs).block ≡ length s.block
unfolding puts_of
puts_length [] s = refl
puts_length (x ∷ xs) s = puts_length xs (put_of s x) ∙ put_length s x

-- ---- bytes
pub puts_app : (xs ys : List ℕ) (s : Laid) → puts_of (puts_of s xs) ys ≡ puts_of s (xs ++ ys)
unfolding puts_of
puts_app [] ys s = refl
puts_app (x ∷ xs) ys s = puts_app xs ys (put_of s x)

pub puts_none : (s : Laid) → s ≡ puts_of s []
unfolding puts_of
puts_none s = refl

-- one byte more of the bytes; t is what `put` leaves
pub puts_more : (bs : List ℕ) (i : ℕ) (s r t : Laid) → i < length bs → r ≡ puts_of s (take i bs)
    → t ≡ put_of r (get_or bs i 0) → t ≡ puts_of s (take (i + 1) bs)
unfolding puts_of
puts_more bs i s r t h e f =
    f ∙ ap (λ (u : Laid). put_of u (get_or bs i 0)) e ∙ puts_app (take i bs) (get_or bs i 0 ∷ []) s
    ∙ ap (puts_of s) (sym (take-suc bs i 0 h) ∙ ap (λ (n : ℕ). take n bs) (sym (add-one i)))
