-- A turn of the walk back, in each of the ways that the code leaves it; and where a pending move lets it start. Assumes
-- nothing.
use Rattle.std.proofs.Common.{◌≡◌, ℕ, ◌+◌, ◌^◌, ◌≤◌, Bool, true, false, cond, not, ◌&&◌, eqb, ltb, List, [], ◌∷◌, sym}
use Rattle.std.proofs.Common.{refl, ap, ◌∙◌, eq-eqb, ne_eqb}
use lib.Bits.{bit_and}
use Rattle.format.specs.Word.{plus32, minus32}
use Rattle.format.specs.Tag.{tag_splice, tag_length, tag_delete, tag_id}
use Rattle.format.specs.Back.{Met}
use Rattle.format.specs.Look.{found_at, FoundIn, as_ids, spliced_at, create_at, wlook}
use Rattle.format.specs.Lookup.{has_ids, searched_from, searched}
use Rattle.format.specs.Gstate.{gstate_has_move_here}
use Rattle.format.specs.declared.Found.{Found}
use Rattle.format.specs.declared.LfsMdir.{LfsMdir}
use Rattle.format.specs.declared.LfsGstate.{LfsGstate}
use Rattle.format.proofs.Searched.{found_in}
use Rattle.std.specs.Prelude.{None, Option, Some}

-- u is what the whole walk answers, l the tags that are left of it
module _ (ids : Bool) (mask key d : ℕ) (l : List Met) (u : Option Found) (inv : u ≡ wlook ids mask key d l) where
  pub walk_over : l ≡ [] → None ≡ u
  unfolding wlook
  walk_over h = sym (inv ∙ ap (wlook ids mask key d) h)

  -- the tag t stands at `at`, k is the key here, s whether the tag is a splice at or below it
  module _ (t at : ℕ) (older : List Met) (e : l ≡ record { tag = t; off = at } ∷ older) (k : ℕ) (ek : k ≡ minus32 key d)
      (s : Bool) (es : s ≡ spliced_at ids t k) (c : ℕ) (ec : c ≡ create_at k) where
    here : u ≡ wlook ids mask key d (record { tag = t; off = at } ∷ older)
    here = inv ∙ ap (wlook ids mask key d) e

    pub turn_created : s && eqb t c ≡ true → None ≡ u
    unfolding wlook
    turn_created q = sym (here ∙ rw (← ek, ← es, ← ec, q))

    -- f is the difference behind the tag, q the key there
    module _ (z : s && eqb t c ≡ false) (f : ℕ) (ef : f ≡ cond s (plus32 d (as_ids (tag_splice t))) d) (q : ℕ)
        (eq : q ≡ minus32 key f) where
      past_create : u ≡ cond (eqb (bit_and t mask) (bit_and q mask))
          (cond (tag_delete t) None (Some (found_at t at f))) (wlook ids mask key f older)
      unfolding wlook
      past_create = here ∙ rw (← ek, ← es, ← ec, z, ← ef, ← eq)

      pub turn_removed : bit_and t mask ≡ bit_and q mask → tag_delete t ≡ true → None ≡ u
      turn_removed m r = sym (past_create ∙ rw (eq-eqb (bit_and t mask) (bit_and q mask) m, r))

      pub turn_found : bit_and t mask ≡ bit_and q mask → tag_delete t ≡ false → (e : Found) → e ≡ found_at t at f
          → Some e ≡ u
      turn_found m r e ee = ap Some ee
          ∙ sym (past_create ∙ rw (eq-eqb (bit_and t mask) (bit_and q mask) m, r))

      pub turn_on : (bit_and t mask ≡ bit_and q mask → ⊥) → u ≡ wlook ids mask key f older
      turn_on m = past_create ∙ rw (ne_eqb (bit_and t mask) (bit_and q mask) m)

-- the entry found, e, stands whole before the end
pub turn_inside : (end t at f : ℕ) → at + tag_length t ≤ end → tag_delete t ≡ false → (e : Found)
    → e ≡ found_at t at f → FoundIn end e
turn_inside end t at f h kept e ee = rw ee (found_in t at f end kept h)

-- where the search starts
module _ (b : List ℕ) (dir : LfsMdir) (gdisk : LfsGstate) (mask key : ℕ) where
  abbrev moves : Bool
  moves = has_ids mask && gstate_has_move_here gdisk dir.pair

  abbrev moved : ℕ
  moved = tag_id gdisk.tag

  pub starts : searched b dir gdisk mask key
      ≡ cond (moves && eqb moved (tag_id key)) None
      (searched_from b dir mask key (cond (moves && ltb moved (tag_id key)) (minus32 0 (2 ^ 10)) 0))
  unfolding searched
  starts = go moves (eqb moved (tag_id key)) (ltb moved (tag_id key))
    where
      go : (p e l : Bool)
          → cond p (cond e None (cond l (searched_from b dir mask key (minus32 0 (2 ^ 10)))
          (searched_from b dir mask key 0))) (searched_from b dir mask key 0)
          ≡ cond (p && e) None (searched_from b dir mask key (cond (p && l) (minus32 0 (2 ^ 10)) 0))
      go true true l = refl
      go true false true = refl
      go true false false = refl
      go false e l = refl

  -- i and j are the ids of the mask and the key, m that of the move, h whether it is here
  module _ (i m j : ℕ) (h : Bool) (ei : i ≡ tag_id mask) (eh : h ≡ gstate_has_move_here gdisk dir.pair) (em : m ≡ moved)
      (ej : j ≡ tag_id key) where
    pub start_moved : (not (eqb i 0) && h) && eqb m j ≡ true → None ≡ searched b dir gdisk mask key
    start_moved q = sym (starts ∙ rw (← ei, ← eh, ← em, ← ej, q))

    -- d is the difference at the start, u what the walk answers
    pub start_from : (not (eqb i 0) && h) && eqb m j ≡ false → (d : ℕ)
        → d ≡ cond ((not (eqb i 0) && h) && ltb m j) (minus32 0 (2 ^ 10)) 0
        → (u : Option Found) → u ≡ searched_from b dir mask key d → u ≡ searched b dir gdisk mask key
    start_from q d ed u eu = eu ∙ sym (starts ∙ rw (← ei, ← eh, ← em, ← ej, q, ← ed))
