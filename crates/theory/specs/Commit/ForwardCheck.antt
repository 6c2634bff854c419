-- Document 02, L5: the forward check is one more entry of a commit. It passes its rule at every count and says nothing
-- of slots, tail and move state, so that the machine behind a commit is the one without it; and what -28 refuses is
-- what it refused without it. Assumes nothing.
use Rattle.std.specs.Prelude.{◌≡◌, refl, Bool, true, false, cond, List, [], ◌∷◌, ◌++◌, ℕ, ◌+◌, ◌-◌, ◌%◌, ◌≤◌, length, ltb, eqb}
use Rattle.std.proofs.Common.{◌∙◌, append-nil, arith, div-mul-le_self, le-div_iff_mul-le, mul-le-mul_right}
use borrow.Author.Tests.{leb-true, le-ltb}
use Rattle.format.specs.Tag.{tag_chunk, tag_length, tag_of}
use Rattle.format.specs.Kind.{type_forward, no_slot, is_tail}
use Rattle.format.specs.Regular.{rule_of, rule_holds, count_after}
use Rattle.format.specs.Directory.{apply, apply_all, acts, load_of, is_move, move_of}
use Rattle.format.specs.Record.{pair_in, tail_of, split_of}
use Rattle.format.specs.Commit.{Item, written, items_hold}
use Rattle.format.specs.Stores.{entries_length}
use Rattle.format.specs.Machine.{Machine, ran}
use Rattle.format.specs.Writer.{check_length, rounded_end, unit_check, forward_tag, forward_item, forward_length, carries}
use Rattle.format.specs.Writer.{carried_for, forward_items, with_forward}
use Rattle.format.specs.declared.LfsFcrc.{LfsFcrc}
use Rattle.format.specs.declared.LfsPair.{LfsPair}
use Rattle.format.proofs.Tags.{of_type1, of_type3, of_length}
use Rattle.theory.specs.Rules.MadeItem.{AllMade}
use Rattle.theory.specs.Rules.LooseEntry.{Loose, AllLoose, loose_item, tail_eight, made_behind, hold_behind}

-- ---- entries that say nothing: of no slot, no tail, no move state
pub record Silent (i : Item) : Type 0 where
  pub loose : Loose i
  pub tail : is_tail i.tag ≡ false
  pub move : is_move i.tag ≡ false

abbrev pub AllSilent : List Item → Type 0
AllSilent [] = Unit {0}
AllSilent (i ∷ is) = Silent i × AllSilent is

pub silent_loose : (is : List Item) → AllSilent is → AllLoose is
silent_loose [] h = tt
silent_loose (i ∷ is) h = (h.0.loose, silent_loose is h.1)

-- behind others they leave the machine as it is
ran_one : (M : Machine) (i : Item) → Silent i → ran M (written (i ∷ []) []) ≡ M
unfolding written acts apply_all apply split_of tail_of move_of
ran_one M i h = λ k. record {
  slots = apply M.slots (h.loose.still k);
  split = cond (h.tail k) (eqb (tag_chunk i.tag % 2) 1) M.split;
  tail = cond (h.tail k) (pair_in i.body) M.tail;
  move = cond (h.move k) (load_of i.tag i.body) M.move;
}

ran_none : (M : Machine) (F : List Item) → AllSilent F → ran M (written F []) ≡ M
unfolding written acts apply_all split_of tail_of move_of
ran_none M [] h = refl
ran_none M (i ∷ F) h = ran_none (ran M (written (i ∷ []) [])) F h.1 ∙ ran_one M i h.0

pub ran_silent : (M : Machine) (is F : List Item) → AllSilent F
    → ran M (written (is ++ F) []) ≡ ran M (written is [])
unfolding written acts apply_all split_of tail_of move_of
ran_silent M [] F h = ran_none M F h
ran_silent M (i ∷ is) F h = ran_silent (ran M (written (i ∷ []) [])) is F h

-- ---- the forward check is such an entry
forward_silent : (f : LfsFcrc) → Silent (forward_item f)
unfolding rule_of rule_holds count_after
forward_silent f =
    let p : LfsPair = record { n0 = f.size; n1 = f.sum } in
    let d : List ℕ = (forward_item f).body in
    let eight : length d ≡ 8 = tail_eight p in
    let l : Loose (record { tag = tag_of type_forward no_slot (length d); body = d }) =
    loose_item type_forward d (omega arith) (omega arith) (omega arith) (λ c. (rw eight, refl)) in
    record {
      loose = rw eight at l;
      tail = rw (of_type1 type_forward no_slot 8 (omega arith) (omega arith) (omega arith));
      move = rw (of_type3 type_forward no_slot 8 (omega arith) (omega arith) (omega arith));
    }

pub carried_silent : (f : LfsFcrc) → AllSilent (forward_items f)
carried_silent f = go f.seen
  where
    go : (b : Bool) → AllSilent (cond b (forward_item f ∷ []) [])
    go true = (forward_silent f, tt)
    go false = tt

module _ (e prog block from : ℕ) (is : List Item) where
  abbrev fcrc : LfsFcrc
  fcrc = carried_for e prog block (from + entries_length is)

  pub with_made : AllMade is → AllMade (with_forward e prog block from is)
  unfolding with_forward
  with_made h = made_behind is (forward_items fcrc) h (silent_loose (forward_items fcrc) (carried_silent fcrc))

  pub with_hold : (c : ℕ) → items_hold c is ≡ true → items_hold c (with_forward e prog block from is) ≡ true
  unfolding with_forward
  with_hold c h = hold_behind is (forward_items fcrc) c h (silent_loose (forward_items fcrc) (carried_silent fcrc))

  pub with_ran : (M : Machine) → ran M (written (with_forward e prog block from is) []) ≡ ran M (written is [])
  unfolding with_forward
  with_ran M = ran_silent M is (forward_items fcrc) (carried_silent fcrc)

-- ---- the twelve bytes
pub length_app : (is js : List Item) → entries_length (is ++ js) ≡ entries_length is + entries_length js
unfolding entries_length
length_app [] js = omega arith
length_app (i ∷ is) js = rw (length_app is js) (omega arith)

pub forward_long : tag_length forward_tag ≡ forward_length
forward_long = of_length type_forward no_slot 8 (omega arith)

-- a later place has no earlier end
pub rounded_on : (prog at more : ℕ) → 4 ≤ prog → rounded_end prog at ≤ rounded_end prog (at + more)
unfolding rounded_end
rounded_on prog at more h =
    mul-le-mul_right prog ((le-div_iff_mul-le {k = prog} {y = at + more + check_length + (prog - 1)} (omega arith)).1
    (omega (arith, div-mul-le_self (at + check_length + (prog - 1)) prog)))

module _ (e prog block from : ℕ) (is : List Item) (some : 4 ≤ prog) where
  abbrev end : ℕ
  end = from + entries_length is

  abbrev laid_end : ℕ
  laid_end = from + entries_length (with_forward e prog block from is)

  -- where it is carried, the entries are longer by it, and a unit behind the end is in the block
  pub carried_end : carries prog block end ≡ true
      → (laid_end ≡ end + forward_length) × (rounded_end prog laid_end + prog ≤ block)
  unfolding with_forward carried_for carries entries_length
  carried_end h =
      let n : from + entries_length (is ++ (forward_item (unit_check e prog) ∷ [])) ≡ end + forward_length =
      omega (arith, length_app is (forward_item (unit_check e prog) ∷ []), forward_long) in
      rw (h, n) (refl, leb-true (rounded_end prog (end + forward_length) + prog) block h)

  pub bare_end : carries prog block end ≡ false → with_forward e prog block from is ≡ is
  unfolding with_forward carried_for
  bare_end h = rw h (append-nil is)

  -- "what -28 accepts is the same as before": the end really laid passes the block exactly if the bare one does
  pub space_same : ltb block (rounded_end prog laid_end) ≡ ltb block (rounded_end prog end)
  space_same = go (carries prog block end) refl
    where
      go : (b : Bool) → carries prog block end ≡ b
          → ltb block (rounded_end prog laid_end) ≡ ltb block (rounded_end prog end)
      go true h =
          let r = carried_end h in
          let fits : rounded_end prog (end + forward_length) + prog ≤ block = rw r.0 at r.1 in
          rw (
            r.0,
            le-ltb block (rounded_end prog (end + forward_length)) (omega arith),
            le-ltb block (rounded_end prog end) (omega (arith, rounded_on prog end forward_length some)),
          )
      go false h = rw (bare_end h)
