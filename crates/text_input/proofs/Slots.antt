-- The loop over slots: one more is shown behind those before it. Assumes nothing.
use mathlib.Core.Path.{◌≡◌, sym, ap, ◌∙◌}
use mathlib.Core.List.{List, [], ◌∷◌, ◌++◌}
use Prim.Native.Nat.{ℕ, zero, suc, ◌+◌, ◌<◌}
use native.Mathlib.Numerals.{add-one}
use native.Mathlib.Omega.{arith}
use lib.ListN.{length, take, get_or}
use Rattle.std.proofs.Common.{append_assoc, append-nil, add-zero, zero-add}
use Rattle.format.specs.Directory.{classes, Slot, empty}
use Rattle.text.specs.declared.Text.{Text}
use Rattle.text.specs.Put.{Puts}
use Rattle.text.proofs.Joined.{puts_both}

-- ---- a loop over slots: f shows one of them, F all from an id on
pub record Shown (F : ℕ → List Slot → List ℕ) (f : ℕ → Slot → List ℕ) : Type 0 where
  pub next : (id : ℕ) (s : Slot) (D : List Slot) → F id (s ∷ D) ≡ f id s ++ F (suc id) D
  pub none : (id : ℕ) → F id [] ≡ []
  pub same : (id : ℕ) (s t : Slot) → ((k : ℕ) → k < classes → s k ≡ t k) → f id s ≡ f id t

module _ (F : ℕ → List Slot → List ℕ) (f : ℕ → Slot → List ℕ) (law : Shown F f) where
  one_more : (D : List Slot) (i j : ℕ) → i < length D
      → F j (take (suc i) D) ≡ F j (take i D) ++ f (i + j) (get_or D i empty)
  one_more [] i j h = absurd (omega arith)
  one_more (s ∷ D) zero j h =
      rw zero-add (law.next j s [] ∙ ap (λ (l : List ℕ). f j s ++ l) (law.none (suc j)) ∙ append-nil (f j s)
      ∙ ap (λ (l : List ℕ). l ++ f j s) (sym (law.none j)))
  one_more (s ∷ D) (suc i) j h =
      let e : i + suc j ≡ suc i + j = omega arith in
      law.next j s (take (suc i) D) ∙ ap (λ (l : List ℕ). f j s ++ l) (one_more D i (suc j) (omega arith))
      ∙ sym (append_assoc (f j s) (F (suc j) (take i D)) (f (i + suc j) (get_or D i empty)))
      ∙ ap (λ (l : List ℕ). l ++ f (i + suc j) (get_or D i empty)) (sym (law.next j s (take i D)))
      ∙ ap (λ (n : ℕ). F j (s ∷ take i D) ++ f n (get_or D i empty)) e

  -- one slot more, whose seats hold what the directory has there
  pub slots_each : (a b c : Text) (D : List Slot) (id : ℕ) (slot : Slot) → id < length D
      → ((k : ℕ) → k < classes → slot k ≡ get_or D id empty k)
      → Puts a b (F 0 (take id D)) → Puts b c (f id slot) → Puts a c (F 0 (take (id + 1) D))
  slots_each a b c D id slot h same p q =
      rw (add-one id, one_more D id 0 h, add-zero id, ← law.same id slot (get_or D id empty) same)
      (puts_both a b c (F 0 (take id D)) (f id slot) p q)
