-- Laws of the room behind a log's end: none of the reasons applies exactly where document 01's condition holds, and
-- which byte is the first that isn't erased. Assumes nothing.
use mathlib.Core.Path.{◌≡◌, refl, sym, ap, ◌∙◌}
use mathlib.Core.Logic.{◌≢◌}
use mathlib.Core.Bool.{Bool, true, false, not, cond, ◌&&◌}
use mathlib.Core.List.{List, [], ◌∷◌}
use Prim.Native.Nat.{ℕ, zero, suc, ◌+◌, ◌%◌, ◌<◌}
use native.Mathlib.Omega.{arith}
use lib.ListN.{length, get_or, drop, length-drop}
use lib.Dec.{ltb, eqb}
use borrow.Author.Tests.{eqb-true, eqb-false, lt-ltb, le-ltb}
use Rattle.format.specs.Erased.{all_erased, validity_fits}
use Rattle.format.specs.Room.{room_clean, erased_run, first_unerased, room_of}
use Rattle.format.specs.declared.Refusal.TheVariants.{Misaligned, WrongValidity, NotErased}
use Rattle.std.specs.Prelude.{Err, Ok, Result}
use Rattle.format.specs.declared.Refusal.{Refusal}

-- ---- the condition and the reasons
module _ (e prog : ℕ) (b : List ℕ) (end etag : ℕ) where
  -- the room, by what the three tests answer
  abbrev pub tested : Bool → Bool → Bool → Result Unit Refusal
  tested aligned fits erased =
      cond (not aligned) (Err Misaligned)
      (cond (not fits) (Err WrongValidity)
      (cond (not erased) (Err (NotErased (first_unerased e b end)))
      (Ok tt)))

  pub room_tested : room_of e prog b end etag ≡ tested (eqb (end % prog) 0) (validity_fits e etag)
      (all_erased e (drop end b))
  unfolding room_of
  room_tested = refl

  from_tests : (a p c : Bool) → tested a p c ≡ (Ok tt) → c && a && p ≡ true
  from_tests false p c h = cc
  from_tests true false c h = cc
  from_tests true true false h = cc
  from_tests true true true h = refl

  to_tests : (a p c : Bool) → c && a && p ≡ true → tested a p c ≡ (Ok tt)
  to_tests a p false h = cc
  to_tests false p true h = cc
  to_tests true false true h = cc
  to_tests true true true h = refl

  pub clean_holds : room_of e prog b end etag ≡ (Ok tt) → room_clean e prog b end etag ≡ true
  unfolding room_clean
  clean_holds h = from_tests (eqb (end % prog) 0) (validity_fits e etag) (all_erased e (drop end b)) (sym room_tested ∙ h)

  pub holds_clean : room_clean e prog b end etag ≡ true → room_of e prog b end etag ≡ (Ok tt)
  unfolding room_clean
  holds_clean h = room_tested ∙ to_tests (eqb (end % prog) 0) (validity_fits e etag) (all_erased e (drop end b)) h

-- ---- the run of erased bytes at the front of a list: c is whether the first byte is erased
module _ (e : ℕ) where
  before_step : (c : Bool) (x : ℕ) (l : List ℕ) (i : ℕ) → eqb x e ≡ c
      → ((j : ℕ) → j < erased_run e l → get_or l j 0 ≡ e) → i < cond c (suc (erased_run e l)) 0 → get_or (x ∷ l) i 0 ≡ e
  before_step false x l i is rest h = absurd (omega arith)
  before_step true x l zero is rest h = eqb-true x e is
  before_step true x l (suc i) is rest h = rest i (omega arith)

  -- its bytes are erased
  pub run_before : (l : List ℕ) (i : ℕ) → i < erased_run e l → get_or l i 0 ≡ e
  unfolding erased_run
  run_before [] i h = absurd (omega arith)
  run_before (x ∷ l) i h = before_step (eqb x e) x l i refl (run_before l) h

  all_step : (c : Bool) (l : List ℕ) → (all_erased e l ≡ true → erased_run e l ≡ length l) → c && all_erased e l ≡ true
      → cond c (suc (erased_run e l)) 0 ≡ suc (length l)
  all_step true l rest h = ap suc (rest h)
  all_step false l rest h = cc

  -- where all are erased it is the list
  pub run_all : (l : List ℕ) → all_erased e l ≡ true → erased_run e l ≡ length l
  unfolding erased_run all_erased
  run_all [] h = refl
  run_all (x ∷ l) h = all_step (eqb x e) l (run_all l) h

  abbrev EndsAt : List ℕ → ℕ → Type 0
  EndsAt l k = (k < length l) × (get_or l k 0 ≢ e)

  ends_step : (c : Bool) (x : ℕ) (l : List ℕ) → eqb x e ≡ c → (all_erased e l ≡ false → EndsAt l (erased_run e l))
      → c && all_erased e l ≡ false → EndsAt (x ∷ l) (cond c (suc (erased_run e l)) 0)
  ends_step true x l is rest h = (omega (arith, (rest h).0), (rest h).1)
  ends_step false x l is rest h = (omega arith, eqb-false x e is)

  -- where not all are, the byte behind it isn't
  pub run_ends : (l : List ℕ) → all_erased e l ≡ false → EndsAt l (erased_run e l)
  unfolding erased_run all_erased
  run_ends [] h = absurd (let z : ◌≡◌ {A = ℕ} 0 1 = cc in omega arith)
  run_ends (x ∷ l) h = ends_step (eqb x e) x l refl (run_ends l) h

  -- ---- the first byte that isn't erased stands inside the block exactly if not all are
  pub inside_block : (b : List ℕ) (end : ℕ) → ltb (first_unerased e b end) (length b) ≡ not (all_erased e (drop end b))
  unfolding first_unerased
  inside_block b end = go (all_erased e (drop end b)) refl
    where
      go : (c : Bool) → all_erased e (drop end b) ≡ c → ltb (end + erased_run e (drop end b)) (length b) ≡ not c
      go true h = le-ltb (end + erased_run e (drop end b)) (length b)
          (omega (arith, run_all (drop end b) h, length-drop end b))
      go false h = lt-ltb (end + erased_run e (drop end b)) (length b)
          (omega (arith, (run_ends (drop end b) h).0, length-drop end b))
