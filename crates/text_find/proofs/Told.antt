-- What is shown of a block, by what the pass over it answered. Assumes nothing.
use mathlib.Core.Path.{◌≡◌, refl, sym}
use mathlib.Core.Bool.{Bool, true, false, not, cond}
use mathlib.Core.List.{List, [], ◌∷◌, map}
use Prim.Native.Nat.{ℕ, suc, ◌+◌, ◌≤◌, ◌<◌}
use native.Mathlib.Omega.{arith}
use lib.ListN.{length, get_or}
use borrow.Author.Tests.{eq-eqb, ne_eqb}
use Rattle.format.specs.Log.{log}
use Rattle.format.specs.Walk.{Event}
use Rattle.format.specs.Back.{back}
use Rattle.format.specs.Regular.{Regular, rules_fit}
use Rattle.format.specs.Directory.{Slot, empty, dir_of}
use Rattle.format.specs.Find.{is_named, first_named, find_in}
use Rattle.format.specs.Listing.{slot_text, refused_line}
use Rattle.format.specs.FindText.{found_text, find_text_as}
use Rattle.format.specs.declared.Rules.{Rules}
use Rattle.format.specs.declared.LfsPair.{LfsPair}
use Rattle.format.specs.declared.LfsMdir.{LfsMdir}
use Rattle.format.specs.declared.Refusal.TheVariants.{Invalid, Irregular}
use Rattle.theory.specs.Back.BackActs.{seen}
use Rattle.compact_slot.specs.Seat.{Gatherable, Gathered}
use Rattle.compact_slot.specs.Slots.{Slots, slot_in}
use Rattle.compact_slot.proofs.Slots.{slot_gathers, slot_holds}
use Rattle.text_input.specs.Input.{Listable, input_text}
use Rattle.text_input.proofs.Input.{block_slots}
use Rattle.text_listing.proofs.Loops.{slots_shown}
use Rattle.std.specs.Prelude.{Err, Ok, Some}

-- ---- a slot that is found is there
never : {A : Type 0} → ◌≡◌ {A = ℕ} 0 1 → A
never e = absurd (omega arith)

first_there : (name : List ℕ) (kind i : ℕ) (D : List Slot) (id : ℕ) → Ok (Some id) ≡ first_named name kind i D
    → (i ≤ id) × (id < i + length D)
unfolding first_named
first_there name kind i [] id e = never (cc)
first_there name kind i (s ∷ D) id e = go (is_named name kind (s 0)) refl (first_there name kind (suc i) D id) e
  where
    go : (x : Bool) → is_named name kind (s 0) ≡ x
        → (Ok (Some id) ≡ first_named name kind (suc i) D → (suc i ≤ id) × (id < suc i + length D))
        → Ok (Some id) ≡ cond x (Ok (Some i)) (first_named name kind (suc i) D) → (i ≤ id) × (id < i + length (s ∷ D))
    go true x r e = let z : id ≡ i = cc in (omega arith, omega arith)
    go false x r e = let z = r e in (omega (arith, z.0), omega (arith, z.1))

pub record There (r : Rules) (es : List Event) (id : ℕ) : Type 0 where
  pub regular : Regular r es ≡ true
  pub inside : id < length (dir_of es)

pub found_there : (r : Rules) (name : List ℕ) (kind : ℕ) (es : List Event) (id : ℕ) → Ok (Some id) ≡ find_in r name kind es
    → There r es id
unfolding find_in
found_there r name kind es id e = go (Regular r es) refl e
  where
    go : (x : Bool) → Regular r es ≡ x
        → Ok (Some id) ≡ cond x (first_named name kind 0 (dir_of es)) (Err Irregular) → There r es id
    go true x e = record { regular = x; inside = omega (arith, (first_there name kind 0 (dir_of es) id e).1) }
    go false x e = never (cc)

-- ---- a slot that is found in a block has seats, which tell what the directory has there
module _ (b : List ℕ) (m : LfsMdir) (w : Listable b m) (q : Rules) (name : List ℕ) (kind id : ℕ)
    (e : Ok (Some id) ≡ find_in q name kind (log b)) where
  there : There q (log b) id
  there = found_there q name kind (log b) id e

  slots : Slots b m.off m.etag m.count
  slots = block_slots b m q true w (sym there.regular) refl

  low : id < m.count
  low = rw slots.count' there.inside

  pub found_gathers : Gatherable b m.off id
  found_gathers = slot_gathers b m.off m.etag m.count slots id (omega (arith, low))

  pub found_same : (seats : List ℕ) → Gathered b (map (seen b) (back b m.off m.etag)) id seats
      → slot_text id (slot_in b seats) ≡ slot_text id (get_or (dir_of (log b)) id empty)
  found_same seats g = slots_shown.same id (slot_in b seats) (get_or (dir_of (log b)) id empty)
      (slot_holds b m.off m.etag m.count slots id seats low g)

-- ---- the name
module _ (prog : ℕ) (p : LfsPair) (rules : ℕ) (name : List ℕ) (kind : ℕ) (input : List ℕ) where
  pub name_refused : length name ≡ 0 → refused_line Invalid ≡ find_text_as prog p rules name kind input
  name_refused h = rw (eq-eqb (length name) 0 h) (go (not (rules_fit rules)))
    where
      go : (x : Bool) → refused_line Invalid ≡ cond x (refused_line Invalid) (refused_line Invalid)
      go true = refl
      go false = refl

  pub name_fits : (length name ≡ 0 → ⊥) → input_text (λ r m b. found_text r name kind m b) prog p rules input
      ≡ find_text_as prog p rules name kind input
  name_fits h = rw (ne_eqb (length name) 0 h)
