-- All entries of a block with a regular log: the slots, the tail, the move state; and the forward check behind them.
-- Assumes nothing.
use mathlib.Core.Path.{◌≡◌, refl, sym, ap, ap₂, ◌∙◌}
use mathlib.Core.Bool.{Bool, false}
use mathlib.Core.List.{List, ◌++◌}
use Prim.Native.Nat.{ℕ, ◌+◌, ◌≤◌}
use native.Mathlib.Omega.{arith}
use lib.ListN.{length}
use Rattle.format.specs.Log.{log, log_end, log_end_tag}
use Rattle.format.specs.Back.{back}
use Rattle.format.specs.Record.{no_tail, tail_of, split_of}
use Rattle.format.specs.Kind.{no_slot}
use Rattle.format.specs.Directory.{Load, dir_of, move_of}
use Rattle.format.specs.Commit.{Item}
use Rattle.format.specs.Stores.{entries_length}
use Rattle.format.specs.Writer.{forward_length, carried_for, forward_items, with_forward}
use Rattle.format.specs.Compaction.{class_items, dir_items, tail_items, move_items, compaction_items}
use Rattle.format.specs.declared.LfsFcrc.{LfsFcrc}
use Rattle.format.specs.declared.LfsPair.{LfsPair}
use Rattle.format.specs.declared.LfsMdir.{LfsMdir}
use Rattle.theory.specs.Commit.Tested.{regular_log}
use Rattle.format.specs.Look.{mask_move, HitIn, wlook}
use Rattle.format.specs.Lookup.{has_ids}
use Rattle.format.specs.Tag.{mk_tag}
use Rattle.format.proofs.Searched.{hit_before}
use Rattle.theory.specs.Lookup.ByMask.{holds, Answers}
use Rattle.theory.specs.Lookup.OnBlock.{RegularLog}
use Rattle.theory.specs.Lookup.MoveState.{move_found}
use Rattle.theory.specs.Lookup.MoveAnswer.{move_answer_lem}
use Rattle.commit_room.specs.Tests.{Prog}
use Rattle.compact_slot.proofs.Slots.{slots_few, slot_gathers}
use Rattle.compact_entries.specs.Emitted.{Standing, emits, hit_items, Read, Renewing}
use Rattle.compact_entries.specs.declared.Emit.{Emit}
use Rattle.compact_entries.proofs.Joined.{emits_app, emits_end, dir_within, tail_within, items_most}
use Rattle.compact_entries.proofs.Written.{hit_items_lem}
use Rattle.std.specs.Prelude.{Option, None}
use Rattle.format.specs.declared.Found.{Found}

-- a stands behind the slots, t behind the tail, r behind the move state
module _ (b : List ℕ) (e : Emit) (dir : LfsMdir) (d : Read b e dir) (s a : Standing)
    (ea : a ≡ emits s (dir_items 0 (dir_of (log b)))) where
  pub slots_within : a.end ≤ s.end + 271_845_882
  slots_within = omega (
    arith,
    dir_within a s (dir_of (log b)) ea,
    slots_few b dir.off dir.etag dir.count d.source.slots,
    d.source.slots.count',
  )

  -- the record's end is in the block
  pub read_inside : dir.off ≤ length b
  read_inside = (slot_gathers b dir.off dir.etag dir.count d.source.slots 0 (omega arith)).inside

  module _ (t : Standing) (et : t ≡ emits a (tail_items dir.split dir.tail)) where
    pub entries_within : t.end ≤ s.end + 271_846_908
    entries_within = omega (arith, slots_within, tail_within t a dir.split dir.tail et)

    -- gm and gt are the mask and the key of the move state that LFS_MKTAG makes, h what the search answers
    pub entries_done : (gm gt : ℕ) → gm ≡ mk_tag 0x7ff 0 0 → gt ≡ mk_tag 0x7ff 0 12 → (h : Option Found)
        → h ≡ wlook (has_ids gm) gm gt 0 (back b dir.off dir.etag) → HitIn dir.off h → (r : Standing)
        → r ≡ emits t (hit_items b h) → r ≡ emits s (compaction_items (log b))
    unfolding compaction_items
    entries_done gm gt em et' h eh i r er =
        let I : List Item = tail_items (split_of false (log b)) (tail_of no_tail (log b)) in
        let M : List Item = move_items (move_of None (log b)) in
        let R : RegularLog (log b) = regular_log b (log b) refl d.source.slots.regular in
        let u : h ≡ wlook false mask_move (mask_move + 12) 0 (back b (log_end (log b)) (log_end_tag (log b)))
        = eh ∙ rw (em, et', d.source.slots.ends, d.source.slots.end_tag) in
        let m : holds b h ≡ move_of None (log b)
        = ap (holds b) u ∙ move_found b (log b) 12 refl d.source.some R.base.reg R.base.eight (omega arith)
        in
        let n : Answers no_slot h = rw u (move_answer_lem b 12 d.source.some d.source.slots.regular R.base.reg
        (omega arith)) in
        er ∙ ap (emits t) (hit_items_lem b no_slot h (hit_before dir.off (length b) h read_inside i) n)
        ∙ ap (λ (x : Option Load). emits t (class_items no_slot x)) m
        ∙ ap (λ (x : Standing). emits x M) (et ∙ ap₂ (λ (x : Bool) (y : LfsPair). emits a (tail_items x y)) d.split'
        d.tail' ∙ ap (λ (x : Standing). emits x I) ea)
        ∙ sym (emits_app (dir_items 0 (dir_of (log b))) (I ++ M) s ∙ emits_app I M (emits s (dir_items 0 (dir_of (log b)))))

-- ---- with the forward check behind them: a stands behind the entries, f is what `forward` answers, r stands behind it
module _ (prog : ℕ) (b : List ℕ) (e : Emit) (dir : LfsMdir) (d : Renewing prog b e dir) (s a : Standing)
    (es : s.end ≡ e.end) (ea : a ≡ emits s (compaction_items (log b))) where
  pub held_within : a.end ≤ 271_847_950
  held_within =
      omega (
        arith,
        ap (λ (z : Standing). z.end) ea,
        emits_end (compaction_items (log b)) s,
        items_most (log b) (omega (
          arith,
          slots_few b dir.off dir.etag dir.count d.read.source.slots,
          d.read.source.slots.count',
        )),
        d.read.source.small,
      )

  pub forward_prog : Prog prog (a.end + forward_length)
  forward_prog = record { low = d.low; high = d.high; near = omega (arith, held_within) }

  -- `byte` is the erased one
  pub all_done : (byte : ℕ) (f : LfsFcrc) → f ≡ carried_for byte prog (length b) a.end → (r : Standing)
      → r ≡ emits a (forward_items f) → r ≡ emits s (with_forward byte prog (length b) 4 (compaction_items (log b)))
  unfolding with_forward
  all_done byte f ef r er =
      let I : List Item = compaction_items (log b) in
      let end : a.end ≡ 4 + entries_length I = ap (λ (z : Standing). z.end) ea ∙ emits_end I s
      ∙ ap (λ (k : ℕ). k + entries_length I) (es ∙ d.start) in
      er ∙ ap (λ (g : LfsFcrc). emits a (forward_items g)) (ef ∙ ap (carried_for byte prog (length b)) end)
      ∙ ap (λ (z : Standing). emits z (forward_items (carried_for byte prog (length b) (4 + entries_length I)))) ea
      ∙ sym (emits_app I (forward_items (carried_for byte prog (length b) (4 + entries_length I))) s)
