-- What compaction writes behind the slots: the tail "unless it is soft and both 0xffffffff", and the move state "if
-- found". They pass their rules, touch no slot, and read back as the tail, the split mark and the move state that they
-- were made of. Assumes nothing.
use Rattle.std.specs.Prelude.{◌≡◌, refl, Bool, true, cond, length, eqb, None, Option, Some}
use Rattle.std.proofs.Common.{sym, ap, ap₂, ◌∙◌, arith, eqb-true, ne_eqb}
use Rattle.std.proofs.Math.Bool.{false}
use mathlib.Core.List.{List, [], ◌∷◌, ◌++◌, map, reverse}
use Prim.Native.Nat.{ℕ, ◌*◌, ◌/◌, ◌%◌, ◌^◌, ◌≤◌, ◌<◌}
use Rattle.format.specs.Word.{all_ones}
use Rattle.format.specs.Tag.{tag_chunk, removal_size, tag_of}
use Rattle.format.specs.Kind.{type_create, type_tail, type_hard_tail, type_move, no_slot, is_tail}
use Rattle.format.specs.Walk.{Event, chk}
use Rattle.format.specs.Record.{pair_in, no_tail, tail_of, split_of}
use Rattle.format.specs.Regular.{rule_of, rule_holds, count_after}
use Rattle.format.specs.Commit.{Item, commit_sum, written}
use Rattle.format.specs.Directory.{Act, mk, rm, put, skip, Load, Slot, move_of}
use Rattle.format.specs.Compaction.{is_no_tail, tail_items, move_items}
use Rattle.format.specs.declared.LfsPair.{LfsPair}
use Rattle.format.proofs.Tags.{of_type1, of_type3, of_chunk}
use Rattle.theory.specs.Walk.Step.{both_true}
use Rattle.theory.specs.Log.Stores.{commit_events}
use Rattle.theory.specs.Directory.Machine.{most_slots}
use Rattle.theory.specs.Directory.Rebuild.{rebuild}
use Rattle.theory.specs.Blocks.ActItems.{to_item, OkAct, AllOk, type_low, ok_rev}
use Rattle.theory.specs.Blocks.SlotItems.{OkSlots, rebuild_ok}
use Rattle.theory.specs.Blocks.Compact.{compact_items}
use Rattle.theory.proofs.Compact.RegularAgain.{written_app}
use Rattle.theory.proofs.Compact.MoveCarried.{MoveOk, NoMove, carried, compact_moves}
use Rattle.theory.specs.Rules.LooseEntry.{AllLoose, Loose, loose_app, loose_item, tail_body, tail_eight, pair_back}

loose_tail : (split : Bool) (p : LfsPair) → AllLoose (tail_items split p)
unfolding rule_of rule_holds count_after
loose_tail split p = go (is_no_tail split p) split
  where
    hard : Loose (record { tag = tag_of type_hard_tail no_slot (length (tail_body p)); body = tail_body p })
    hard = loose_item type_hard_tail (tail_body p) (omega arith) (omega arith) (omega (arith, tail_eight p))
        (λ c. (rw (tail_eight p), refl))

    soft : Loose (record { tag = tag_of type_tail no_slot (length (tail_body p)); body = tail_body p })
    soft = loose_item type_tail (tail_body p) (omega arith) (omega arith) (omega (arith, tail_eight p))
        (λ c. (rw (tail_eight p), refl))

    go : (b s : Bool) → AllLoose
        (cond b [] (record { tag = tag_of (cond s type_hard_tail type_tail) no_slot 8; body = tail_body p } ∷ []))
    go true s = tt
    go false true = (rw (tail_eight p) at hard, tt)
    go false false = (rw (tail_eight p) at soft, tt)

loose_move : (v : Option Load) → MoveOk v → AllLoose (move_items v)
unfolding rule_of rule_holds count_after
loose_move None h = tt
loose_move (Some v) h =
    let is : v.type ≡ type_move = h.0 in
    let n : length v.bytes ≡ 12 = h.1 in
    (loose_item v.type v.bytes (omega arith) (omega arith) (omega arith) (λ c. rw (is, n) (refl, refl)), tt)

-- what compaction writes behind the slots
abbrev pub behind_items : Bool → LfsPair → Option Load → List Item
behind_items split p v = tail_items split p ++ move_items v

pub behind_loose : (split : Bool) (p : LfsPair) (v : Option Load) → MoveOk v → AllLoose (behind_items split p v)
behind_loose split p v h = loose_app (tail_items split p) (move_items v) (loose_tail split p) (loose_move v h)

-- ---- what reads back: the move state
tail_no_move : (split : Bool) (p : LfsPair) → NoMove (tail_items split p)
tail_no_move split p = go (is_no_tail split p) split
  where
    go : (b s : Bool) → NoMove
        (cond b [] (record { tag = tag_of (cond s type_hard_tail type_tail) no_slot 8; body = tail_body p } ∷ []))
    go true s = tt
    go false true = (rw (of_type3 type_hard_tail no_slot 8 (omega arith) (omega arith) (omega arith)), tt)
    go false false = (rw (of_type3 type_tail no_slot 8 (omega arith) (omega arith) (omega arith)), tt)

carried_is : (v : Option Load) → carried v ≡ move_items v
unfolding carried
carried_is None = refl
carried_is (Some v) = refl

module _ (D : List Slot) (split : Bool) (p : LfsPair) (v : Option Load) (sum prev ct : ℕ) (ok : OkSlots D)
    (few : length D ≤ most_slots) (mv : MoveOk v) where
  -- the log that a compaction leaves
  abbrev renewed : List Event
  renewed = commit_events sum prev (compact_items D (behind_items split p v)) ct

  pub move_kept : move_of None renewed ≡ v
  move_kept =
      ap (λ (l : List Item). move_of None (commit_events sum prev (compact_items D (tail_items split p ++ l)) ct))
      (sym (carried_is v))
      ∙ compact_moves D (tail_items split p) v sum prev ct ok few (tail_no_move split p) mv

-- ---- the tail and the split mark
abbrev NoTails : List Item → Type 0
NoTails [] = Unit {0}
NoTails (i ∷ is) = (is_tail i.tag ≡ false) × NoTails is

tails_stay : (is : List Item) (es : List Event) (s : Bool) (p : LfsPair) → NoTails is
    → (tail_of p (written is es) ≡ tail_of p es) × (split_of s (written is es) ≡ split_of s es)
unfolding tail_of split_of written
tails_stay [] es s p h = (refl, refl)
tails_stay (i ∷ is) es s p h =
    let ih = tails_stay is es s p h.1 in (
      ap (λ (b : Bool). tail_of (cond b (pair_in i.body) p) (written is es)) h.0 ∙ ih.0,
      ap (λ (b : Bool). split_of (cond b (eqb (tag_chunk i.tag % 2) 1) s) (written is es)) h.0 ∙ ih.1,
    )

to_item_tail : (a : Act) → OkAct a → is_tail (to_item a).tag ≡ false
unfolding to_item
to_item_tail (mk j) h = rw (of_type1 type_create j 0 (omega arith) h (omega arith))
to_item_tail (rm j) h = absurd h
to_item_tail (put j c (Some v)) h =
    let low : v.type < 2 ^ 10 = type_low c v.type h.1.0 in
    let short : length v.bytes < removal_size = h.1.1 in
    rw (of_type1 v.type j (length v.bytes) (omega arith) h.0 (omega arith))
    (ne_eqb (v.type / 2 ^ 8 * 2 ^ 8) type_tail (λ q. omega arith))
to_item_tail (put j c None) h = absurd h
to_item_tail skip h = absurd h

slots_no_tail : (l : List Act) → AllOk l → NoTails (map to_item l)
slots_no_tail [] ok = tt
slots_no_tail (a ∷ l) ok = (to_item_tail a ok.0, slots_no_tail l ok.1)

move_no_tail : (v : Option Load) → MoveOk v → NoTails (move_items v)
move_no_tail None h = tt
move_no_tail (Some v) h =
    let is : v.type ≡ type_move = h.0 in
    (rw (of_type1 v.type no_slot (length v.bytes) (omega arith) (omega arith) (omega (arith, h.1)), is), tt)

soft_null : (split : Bool) (p : LfsPair) → is_no_tail split p ≡ true → (no_tail ≡ p) × (false ≡ split)
soft_null true p h = (cc, cc)
soft_null false p h =
    let r = both_true (eqb p.n0 all_ones) (eqb p.n1 all_ones) h in (
      ap₂ (λ (x y : ℕ). record { n0 = x; n1 = y }) (sym (eqb-true p.n0 all_ones r.0)) (sym
          (eqb-true p.n1 all_ones r.1)),
      refl,
    )

-- the tail's entry, or its absence, gives pair and split mark back
tail_back : (split : Bool) (p : LfsPair) (es : List Event)
    → (tail_of no_tail (written (tail_items split p) es) ≡ tail_of p es)
    × (split_of false (written (tail_items split p) es) ≡ split_of split es)
unfolding tail_of split_of written
tail_back split p es = go (is_no_tail split p) refl split refl
  where
    go : (b : Bool) → is_no_tail split p ≡ b → (s : Bool) → split ≡ s
        → (let l : List Item = cond b []
        (record { tag = tag_of (cond s type_hard_tail type_tail) no_slot 8; body = tail_body p } ∷ []) in
        (tail_of no_tail (written l es) ≡ tail_of p es) × (split_of false (written l es) ≡ split_of s es))
    go true e s k =
        let n = soft_null split p e in
        (ap (λ (q : LfsPair). tail_of q es) n.0, ap (λ (q : Bool). split_of q es) (n.1 ∙ k))
    go false e true k =
        rw (
          of_type1 type_hard_tail no_slot 8 (omega arith) (omega arith) (omega arith),
          of_chunk type_hard_tail no_slot 8 (omega arith) (omega arith),
        )
        (ap (λ (q : LfsPair). tail_of q es) (pair_back p), refl)
    go false e false k =
        rw (
          of_type1 type_tail no_slot 8 (omega arith) (omega arith) (omega arith),
          of_chunk type_tail no_slot 8 (omega arith) (omega arith),
        )
        (ap (λ (q : LfsPair). tail_of q es) (pair_back p), refl)

module _ (D : List Slot) (split : Bool) (p : LfsPair) (v : Option Load) (sum prev ct : ℕ) (ok : OkSlots D)
    (few : length D ≤ most_slots) (mv : MoveOk v) where
  pub tail_kept : (tail_of no_tail (renewed D split p v sum prev ct ok few mv) ≡ p)
      × (split_of false (renewed D split p v sum prev ct ok few mv) ≡ split)
  unfolding commit_events compact_items tail_of split_of
  tail_kept =
      let S : List Item = map to_item (reverse (rebuild 0 D [])) in
      let x : ℕ = commit_sum sum prev (S ++ behind_items split p v) ct in
      let a = tails_stay S (written (behind_items split p v) (chk ct x ∷ [])) false no_tail
      (slots_no_tail (reverse (rebuild 0 D []))
      (ok_rev (rebuild 0 D []) [] (rebuild_ok D 0 [] ok (omega arith) tt) tt)) in
      let b = tail_back split p (written (move_items v) (chk ct x ∷ [])) in
      let c = tails_stay (move_items v) (chk ct x ∷ []) split p (move_no_tail v mv) in
      rw (
        written_app S (behind_items split p v) (chk ct x ∷ []),
        a.0,
        a.1,
        written_app (tail_items split p) (move_items v) (chk ct x ∷ []),
        b.0,
        b.1,
      ) c
