-- A walk over the entries, one step more, and what a walk of each pass gives. Assumes nothing.
use Rattle.std.proofs.Common.{◌≡◌, ℕ, ◌+◌, ◌<◌, List, [], ◌∷◌, length, get_or, drop, Result, Ok, Err}
use Rattle.std.proofs.Common.{refl, sym, ap, subst, ◌∙◌}
use Rattle.std.specs.Prelude.{fold}
use Rattle.std.specs.declared.convert.Infallible.{Infallible}
use Rattle.std.proofs.lemmas.List.{drop_more}
use Rattle.std.proofs.lemmas.List.Folds.{fold_stays}
use Rattle.format.specs.declared.Entry.{Entry}
use Rattle.format.specs.declared.Refusal.{Refusal}
use Rattle.commit_steps.specs.Steps.{Onto, onto, and_then, judged_of, laid_of, LaidBehind}
use Rattle.commit_steps.specs.declared.Judging.{Judging}
use Rattle.commit_steps.specs.declared.LayingOnto.{LayingOnto}
use Rattle.commit.specs.Passes.{Walked, done, ends, goes, judged_all, laid_all}

-- ---- a walk over what is left at entry i
module _ {P B : Type 0} (S : P → List ℕ → ℕ → ℕ → ℕ → ℕ → Result Unit B → P → Type 0) (dat : List ℕ) (es : List Entry)
    (i : ℕ) (d : Entry) (h : i < length es) where
  -- a step there, and what goes on from it
  pub goes_at : (p m q : P) (r : Result Unit B)
      → S p dat (get_or es i d).kind (get_or es i d).id (get_or es i d).off (get_or es i d).len (Ok tt) m
      → Walked S dat (drop (i + 1) es) m r q → Walked S dat (drop i es) p r q
  goes_at p m q r s on = subst (λ x. Walked S dat x p r q) (sym (drop_more es i d h)) (goes s on)

  -- or a step that ends it
  pub ends_at : (p q : P) (x : B)
      → S p dat (get_or es i d).kind (get_or es i d).id (get_or es i d).off (get_or es i d).len (Err x) q
      → Walked S dat (drop i es) p (Err x) q
  ends_at p q x s = subst (λ y. Walked S dat y p (Err x) q) (sym (drop_more es i d h)) (ends s)

-- ---- the first pass gives what judging all gives
module _ (dat : List ℕ) where
  abbrev judges : Judging → List ℕ → ℕ → ℕ → ℕ → ℕ → Result Unit Refusal → Judging → Type 0
  judges j d kind id off len r k = and_then r (λ _. Ok k) ≡ judged_of j d kind id off len

  abbrev step : Result Judging Refusal → Entry → Result Judging Refusal
  step v e = and_then v (λ k. judged_of k dat e.kind e.id e.off e.len)

  pub walked_judged : (es : List Entry) (j k : Judging) (r : Result Unit Refusal) → Walked judges dat es j r k
      → and_then r (λ _. Ok k) ≡ judged_all es dat j
  walked_judged [] j k r done = refl
  walked_judged (e ∷ es) j k r (ends {x = x} s) =
      sym (fold_stays step (Err x) (λ e. refl) es) ∙ ap (λ v. fold step v es) s
  walked_judged (e ∷ es) j k r (goes {m = m} s on) = walked_judged es m k r on ∙ ap (λ v. fold step v es) s

-- ---- the second pass leaves what laying all leaves, of the same block
module _ (dat : List ℕ) where
  abbrev lays : LayingOnto → List ℕ → ℕ → ℕ → ℕ → ℕ → Result Unit Infallible → LayingOnto → Type 0
  lays p d kind id off len r q = LaidBehind p d kind id off len q

  abbrev lay_step : Onto → Entry → Onto
  lay_step o e = laid_of o.to o.block dat e.kind e.id e.off e.len

  -- q is p with all of es laid, in the same block
  pub record AllLaid (es : List Entry) (p q : LayingOnto) : Type 0 where
    pub block : q.block.ghost_name ≡ p.block.ghost_name
    pub behind : onto q.laying q.block.now ≡ laid_all es dat (onto p.laying p.block.now)

  pub walked_laid : (es : List Entry) (p q : LayingOnto) (r : Result Unit Infallible) → Walked lays dat es p r q
      → AllLaid es p q
  walked_laid [] p q r done = record { block = refl; behind = refl }
  walked_laid (e ∷ es) p q r (ends {x = x} s) = elim x [ ]
  walked_laid (e ∷ es) p q r (goes {m = m} s on) =
      let a = walked_laid es m q r on in
      record {
        block = a.block ∙ s.block;
        behind = a.behind ∙ ap (λ o. fold lay_step o es) s.behind;
      }
