-- A table that is extended from one end to a later one is the table that is built for the later one. Assumes nothing.
use Rattle.std.proofs.Math.Path.{◌≡◌, refl, sym, ap}
use Rattle.std.proofs.Common.{◌∙◌, arith, length-append, take_at, ne_eqb, leb-true}
use Rattle.std.specs.Prelude.{◌≢◌, Bool, ℕ, zero, suc, ◌+◌, ◌-◌, ◌*◌, ◌/◌, ◌^◌, ◌≤◌, ◌<◌, take, replicate, None, Ok, Option, Some}
use Rattle.std.proofs.Math.Bool.{true, false, cond}
use mathlib.Core.List.{List, [], ◌∷◌, ◌++◌}
use Rattle.std.proofs.Math.ListN.{length}
use Rattle.std.proofs.lemmas.List.{length-replicate}
use Rattle.std.proofs.Math.Dec.{leb}
use Rattle.format.specs.Walk.{Event}
use Rattle.format.specs.Log.{log, span}
use Rattle.format.specs.Regular.{Regular, grows}
use Rattle.format.specs.declared.Rules.{Rules}
use Rattle.format.specs.declared.Rules.TheVariants.{Littlefs}
use Rattle.format.specs.Directory.{Act, Slot, apply, apply_all}
use Rattle.format.specs.Index.{rank_at, rank_of, placed_from, places_of, places_after, padded, log_to, ends_at, all_fit}
use Rattle.format.specs.Index.{indexable, indexed_as, table_as, built, ran_on, leading, new_acts, extended}
use Rattle.format.proofs.Growing.{widest}
use Rattle.theory.specs.Walk.Step.{both_true}
use Rattle.theory.specs.Back.EventBytes.{log_stands}
use Rattle.index_theory.specs.Ordered.{Between, between_even}
use Rattle.index_theory.specs.Places.{AllFit, dir_between}
use Rattle.index_theory.specs.Step.{apply_fits}
use Rattle.index_theory.specs.Ran.{ActsFit, built_is}
use Rattle.index_theory.specs.Looked.{placed_dir, placings, placed_few}
use Rattle.index_theory.specs.Ends.{end_is, between_ends, log_next, new_acts_lem, regular_front, placed_app}

-- ---- the places in front of a table's zeros
no_zero : (t high : ℕ) → rank_of t < high → high ≤ 2 ^ 20 → t ≢ 0
unfolding rank_of
no_zero t high h k e = omega (arith, ap rank_of e)

zeros_lead : (k : ℕ) → leading (replicate k 0) ≡ []
unfolding leading
zeros_lead zero = refl
zeros_lead (suc zero) = refl
zeros_lead (suc (suc k)) = refl

pub leading_is : (low high : ℕ) (P : List ℕ) (k : ℕ) → high ≤ 2 ^ 20 → Between low high P
    → leading (P ++ replicate k 0) ≡ P
unfolding leading
leading_is low high [] k h b = zeros_lead k
leading_is low high (x ∷ []) k h b = absurd (omega arith)
leading_is low high (t ∷ o ∷ P) k h b =
    rw (ne_eqb t 0 (no_zero t high b.1 h)) (ap (λ (l : List ℕ). t ∷ o ∷ l) (leading_is low high P k h b.2))

-- ---- entries in two parts, and what they leave fits
module _ (n : ℕ) where
  pub ran_app : (l k : List Act) (P Q : List ℕ) → ran_on n P l ≡ Some Q → ran_on n P (l ++ k) ≡ ran_on n Q k
  unfolding ran_on
  ran_app [] k P Q h = let e : P ≡ Q = cc in ap (λ (x : List ℕ). ran_on n x k) e
  ran_app (a ∷ l) k P Q h = go (leb (length (places_after P a)) n) h (ran_app l k (places_after P a) Q)
    where
      go : (x : Bool) → cond x (ran_on n (places_after P a) l) None ≡ Some Q
          → (ran_on n (places_after P a) l ≡ Some Q → ran_on n (places_after P a) (l ++ k) ≡ ran_on n Q k)
          → cond x (ran_on n (places_after P a) (l ++ k)) None ≡ ran_on n Q k
      go true h on = on h
      go false h on = absurd (let z : ◌≡◌ {A = ℕ} 0 1 = cc in omega arith)

  pub ran_fits : (l : List Act) (P Q : List ℕ) → length P ≤ n → ran_on n P l ≡ Some Q → length Q ≤ n
  unfolding ran_on
  ran_fits [] P Q f h = let e : P ≡ Q = cc in rw (← e) f
  ran_fits (a ∷ l) P Q f h = go (leb (length (places_after P a)) n) refl h (ran_fits l (places_after P a) Q)
    where
      go : (x : Bool) → leb (length (places_after P a)) n ≡ x → cond x (ran_on n (places_after P a) l) None ≡ Some Q
          → (length (places_after P a) ≤ n → ran_on n (places_after P a) l ≡ Some Q → length Q ≤ n) → length Q ≤ n
      go true e h on = on (leb-true (length (places_after P a)) n e) h
      go false e h on = absurd (let z : ◌≡◌ {A = ℕ} 0 1 = cc in omega arith)

pub padded_length : (n : ℕ) (P : List ℕ) → length P ≤ n → length (padded n P) ≡ n
padded_length n P h = length-append P (replicate (n - length P) 0)
    ∙ omega (arith, length-replicate {A = ℕ} (n - length P) 0)

-- ---- what a log leaves
pub all_fits : (l : List Act) (D : List Slot) → ActsFit l → AllFit D → AllFit (apply_all D l)
unfolding apply_all
all_fits [] D h f = f
all_fits (a ∷ l) D h f = all_fits l (apply D a) h.1 (apply_fits D a h.0 f)

module _ (b : List ℕ) (regular : Regular Littlefs (log b) ≡ true) where
  pub placed_fit : AllFit (placed_dir b regular)
  placed_fit = all_fits (placed_from 4 (log b)) [] (placings b regular).fits tt

  pub places_between : Between (rank_at 0 0) (rank_at (0 + length (placed_dir b regular)) 0) (places_of (log b))
  places_between = dir_between 0 (placed_dir b regular) placed_fit (omega (arith, placed_few b regular))

-- what was built is the log's places
pub built_places : (n : ℕ) (es : List Event) (P : List ℕ) → built n es ≡ Some P → P ≡ places_of es
unfolding built
built_places n es P h = go (all_fit n es) h
  where
    go : (x : Bool) → cond x (Some (places_of es)) None ≡ Some P → P ≡ places_of es
    go true h = cc
    go false h = absurd (let z : ◌≡◌ {A = ℕ} 0 1 = cc in omega arith)

-- and stands in front of the table
pub built_front : (n : ℕ) (b : List ℕ) → Regular Littlefs (log b) ≡ true → (k : ℕ)
    → Ok k ≡ indexed_as (built n (log b))
    → (2 * k ≤ n) × (take (2 * k) (table_as n (built n (log b))) ≡ places_of (log b))
built_front n b regular k h = go (built n (log b)) refl h
  where
    go : (x : Option (List ℕ)) → built n (log b) ≡ x → Ok k ≡ indexed_as x
        → (2 * k ≤ n) × (take (2 * k) (table_as n x) ≡ places_of (log b))
    go None e h = absurd (let z : ◌≡◌ {A = ℕ} 0 1 = cc in omega arith)
    go (Some P) e h =
        let q : P ≡ places_of (log b) = built_places n (log b) P e in
        let half : k ≡ length P / 2 = cc in
        let few : length P ≤ n =
        ran_fits n (placed_from 4 (log b)) [] P (omega arith) (sym (built_is n b regular) ∙ e) in
        let even : length P ≡ 2 * (length P / 2) = between_even (rank_at 0 0)
        (rank_at (0 + length (placed_dir b regular)) 0) P (rw q (places_between b regular)) in
        (omega arith, take_at P (replicate (n - length P) 0) (2 * k) (omega arith) ∙ q)

-- ---- the extension
module _ (n : ℕ) (r : Rules) (b : List ℕ) (old end : ℕ) (ho : ends_at b old ≡ true) (he : indexable r b end ≡ true)
    (le : old ≤ end) (inside : end ≤ length b) where
  ends : (ends_at b end ≡ true) × (Regular r (log_to b end) ≡ true)
  ends = both_true (ends_at b end) (Regular r (log_to b end)) he

  es : List Event
  es = log_to b old

  on : List Event
  on = between_ends b old ho (omega arith) end le

  is : log_to b end ≡ es ++ on
  unfolding es on
  is = log_next b old ho (omega arith) end le

  regular_new : Regular Littlefs (log_to b end) ≡ true
  regular_new = widest r (log_to b end) ends.1

  regular_old : Regular Littlefs (log_to b old) ≡ true
  unfolding Regular es
  regular_old = regular_front es on (grows Littlefs) 0 (rw is at regular_new)

  pub built_fits : (P : List ℕ) → built n (log_to b old) ≡ Some P → length P ≤ n
  unfolding es
  built_fits P h = ran_fits n (placed_from 4 es) [] P (omega arith) (sym (built_is n (take old b) regular_old) ∙ h)

  pub extend_afresh : (P : List ℕ) → built n (log_to b old) ≡ Some P
      → extended (padded n P) b old end ≡ built n (log_to b end)
  unfolding es on
  extend_afresh P h =
      let ran : ran_on n [] (placed_from 4 es) ≡ Some P = sym (built_is n (take old b) regular_old) ∙ h in
      let few : length P ≤ n = built_fits P h in
      let k : length (padded n P) ≡ n = padded_length n P few in
      let q : P ≡ places_of es = built_places n es P h in
      let low = placed_few (take old b) regular_old in
      let lead : leading (padded n P) ≡ P =
      leading_is (rank_at 0 0) (rank_at (0 + length (placed_dir (take old b) regular_old)) 0)
      P (n - length P) (omega arith) (rw q (places_between (take old b) regular_old)) in
      let acts : new_acts b old end ≡ placed_from old on = new_acts_lem b old ho (omega arith) end le in
      let at : 4 + span es ≡ old = end_is b old ho in
      rw (k, lead, acts)
      (sym (built_is n (take end b) regular_new ∙ ap (λ (l : List Event). ran_on n [] (placed_from 4 l)) is
      ∙ ap (ran_on n []) (placed_app es on 4 (log_stands (take old b)))
      ∙ ran_app n (placed_from 4 es) (placed_from (4 + span es) on) [] P ran
      ∙ ap (λ (m : ℕ). ran_on n P (placed_from m on)) at))
