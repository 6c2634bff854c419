-- What is put joins: parts one behind the other, and a loop over bytes of which each is shown in its own way. Assumes
-- nothing.
use Rattle.std.proofs.Common.{◌≡◌, ℕ, zero, suc, ◌+◌, ◌<◌, List, [], ◌∷◌, ◌++◌, length, get_or, take, sym, refl, ap, ◌∙◌}
use Rattle.std.proofs.Common.{add-one, append_assoc, append-nil, arith}
use Rattle.text.specs.declared.Text.{Text}
use Rattle.text.specs.Put.{State, state_of, put_of, puts_of, Puts}

-- ---- parts: nothing, and two one behind the other
pub puts_nothing : (s : State) → puts_of s [] ≡ s
unfolding puts_of
puts_nothing s = refl

pub puts_append : (s : State) (xs ys : List ℕ) → puts_of s (xs ++ ys) ≡ puts_of (puts_of s xs) ys
unfolding puts_of
puts_append s [] ys = refl
puts_append s (x ∷ xs) ys = puts_append (put_of s x) xs ys

pub puts_none : (a : Text) → Puts a a []
puts_none a = record { buffer = refl; behind = sym (puts_nothing (state_of a)) }

pub puts_both : (a b c : Text) (xs ys : List ℕ) → Puts a b xs → Puts b c ys → Puts a c (xs ++ ys)
puts_both a b c xs ys p q = record {
  buffer = q.buffer ∙ p.buffer;
  behind = q.behind ∙ ap (λ (z : State). puts_of z ys) p.behind ∙ sym (puts_append (state_of a) xs ys);
}

-- ---- a loop over bytes: f shows one of them, F all
module _ (F : List ℕ → List ℕ) (f : ℕ → List ℕ) (none : F [] ≡ []) (law : (b : ℕ) (bs : List ℕ) → F (b ∷ bs) ≡ f b ++ F bs) where
  one_behind : (bytes : List ℕ) (i : ℕ) → i < length bytes
      → F (take (suc i) bytes) ≡ F (take i bytes) ++ f (get_or bytes i 0)
  one_behind [] i h = absurd (omega arith)
  one_behind (b ∷ bs) zero h = law b [] ∙ rw (none, append-nil)
  one_behind (b ∷ bs) (suc i) h =
      law b (take (suc i) bs) ∙ ap (λ (l : List ℕ). f b ++ l) (one_behind bs i (omega arith))
      ∙ sym (append_assoc (f b) (F (take i bs)) (f (get_or bs i 0)))
      ∙ ap (λ (l : List ℕ). l ++ f (get_or bs i 0)) (sym (law b (take i bs)))

  pub puts_each : (a b c : Text) (bytes : List ℕ) (i : ℕ) → i < length bytes → Puts a b (F (take i bytes))
      → Puts b c (f (get_or bytes i 0)) → Puts a c (F (take (i + 1) bytes))
  puts_each a b c bytes i h p q =
      rw (add-one i, one_behind bytes i h) (puts_both a b c (F (take i bytes)) (f (get_or bytes i 0)) p q)
