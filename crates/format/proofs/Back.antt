-- The walk back's one equation, with no number of steps, and its two cases. Assumes nothing.
use mathlib.Core.Path.{◌≡◌, refl, ap, ◌∙◌}
use mathlib.Core.Bool.{Bool, true, false}
use mathlib.Core.List.{List, [], ◌∷◌}
use Prim.Native.Nat.{ℕ, zero, suc, ◌+◌, ◌-◌, ◌%◌, ◌^◌, ◌≤◌, ◌<◌}
use native.Mathlib.Omega.{arith}
use lib.ListN.{drop}
use lib.Dec.{leb}
use borrow.Author.Tests.{leb-true, le-leb, lt-leb}
use Rattle.format.specs.Word.{be32, xor}
use Rattle.format.specs.Tag.{tag_length}
use Rattle.format.specs.Back.{Met, hop, backs, back}
use Rattle.format.proofs.Words.{tag_length_ge}

-- two ways to go on that agree at every lower offset take the same step
same_hop : (f g : ℕ → ℕ → List Met) (b : List ℕ) (off t : ℕ) → ((o u : ℕ) → o < off → f o u ≡ g o u)
    → hop f (leb (4 + tag_length t) off) b off t ≡ hop g (leb (4 + tag_length t) off) b off t
same_hop f g b off t h = go (leb (4 + tag_length t) off) refl
  where
    go : (c : Bool) → leb (4 + tag_length t) off ≡ c → hop f c b off t ≡ hop g c b off t
    go true e =
        let l : 4 + tag_length t ≤ off = leb-true (4 + tag_length t) off e in
        ap (λ z. record { tag = t; off = off - tag_length t } ∷ z)
        (h (off - tag_length t) (xor (be32 (drop (off - tag_length t) b)) t % 2 ^ 31) (omega (arith, tag_length_ge t)))
    go false e = refl

-- any number of steps above the offset is enough
enough : (n m : ℕ) (b : List ℕ) (off t : ℕ) → off < n → off < m → backs n b off t ≡ backs m b off t
unfolding backs
enough zero m b off t h k = absurd (omega arith)
enough (suc n) zero b off t h k = absurd (omega arith)
enough (suc n) (suc m) b off t h k = same_hop (backs n b) (backs m b) b off t
    (λ o u l. enough n m b o u (omega arith) (omega arith))

pub back_step : (b : List ℕ) (off t : ℕ) → back b off t ≡ hop (back b) (leb (4 + tag_length t) off) b off t
unfolding back backs
back_step b off t = same_hop (backs off b) (back b) b off t (λ o u l. enough off (suc o) b o u l (omega arith))

pub back_none : (b : List ℕ) (off t : ℕ) → off < 4 + tag_length t → back b off t ≡ []
back_none b off t h = rw (back_step b off t, lt-leb (4 + tag_length t) off h)

pub back_more : (b : List ℕ) (off t : ℕ) → 4 + tag_length t ≤ off
    → back b off t ≡ record { tag = t; off = off - tag_length t } ∷ back b (off - tag_length t)
    (xor (be32 (drop (off - tag_length t) b)) t % 2 ^ 31)
back_more b off t h = back_step b off t ∙ rw (le-leb (4 + tag_length t) off h)
