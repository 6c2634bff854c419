-- An extension in one block, by its tests: where both logs end, and whether the longer one is regular. Assumes nothing.
use mathlib.Core.Path.{◌≡◌, refl, sym, ap, ap₂, ◌∙◌}
use mathlib.Core.Logic.{◌≢◌}
use mathlib.Core.Bool.{Bool, true, false, not, and-false}
use mathlib.Core.List.{List}
use Prim.Native.Nat.{ℕ, ◌+◌, ◌≤◌, ◌<◌}
use native.Mathlib.Omega.{arith}
use lib.ListN.{length, drop}
use Rattle.format.specs.Word.{all_ones}
use Rattle.format.specs.Walk.{walk_from}
use Rattle.format.specs.Log.{committed, log, span, log_end, log_end_tag}
use Rattle.format.specs.Regular.{Regular}
use Rattle.format.specs.Index.{placed_from, log_to, ends_at, extendable, extended, ran_on, leading}
use Rattle.format.specs.Index.{indexed_as, table_as}
use Rattle.format.specs.declared.Rules.{Rules}
use Rattle.format.specs.declared.Refusal.TheVariants.{Irregular}
use Rattle.fetch_walk.specs.Block.{walked_of, walked_again}
use Rattle.fetch_walk.specs.declared.Walked.{Walked}
use Rattle.commit_regular.specs.Ends.{CommittedTo, Onwards}
use Rattle.index_theory.specs.Ends.{between_ends, new_acts_lem, end_next}
use Rattle.index_table.specs.Held.{in_use, Takes}
use Rattle.index_table.specs.declared.Places.{Places}
use Rattle.index_table.proofs.Holding.{held}
use Rattle.std.specs.Borrow.{MutBor}
use Rattle.index_pass.specs.Run.{Startable, Runs}
use Rattle.index.specs.Blocks.{InBlock, extended_in, extended_table}
use Rattle.index.proofs.Block.{front, front_is, refuses, accepts, no_end_low, no_end, an_end, walked_end}
use Rattle.index.proofs.Block.{front_committed, not_indexable, is_indexable, front_buildable}
use Rattle.std.specs.Prelude.{Err, Result, Option}
use Rattle.format.specs.declared.Refusal.{Refusal}

module _ (r : Rules) (b : List ℕ) (old end : ℕ) (T : List ℕ) where
  abbrev Done : Result ℕ Refusal → List ℕ → Type 0
  Done y new = (y ≡ extended_in r b old end T) × (new ≡ extended_table r b old end T)

  refused : extendable r b old end ≡ false → Done (Err Irregular) T
  refused h = refuses (extendable r b old end) (extended T b old end) T h

  pub extend_low : old ≤ 4 → Done (Err Irregular) T
  extend_low h = refused (rw (no_end_low b old h))

  -- w is what the walk over the old log answers
  module _ (k : InBlock b end × (old ≤ end)) (high : 4 < old) (w : Walked) (ew : w ≡ walked_of (front b old) 0) where
    pub extend_off : w.taken.off ≢ old → Done (Err Irregular) T
    extend_off h = refused (rw (no_end b old high (λ e. h (walked_end b old w ew ∙ e))))

    -- v is what the walk that goes on answers
    module _ (at : w.taken.off ≡ old) (v : Walked) (ev : v ≡ walked_again (front b end) w.taken) where
      old_ends : ends_at b old ≡ true
      old_ends = an_end b old high (sym (walked_end b old w ew) ∙ at)

      inside : old ≤ length b
      inside = omega (arith, k.0.inside, k.1)

      tag_is : w.taken.etag ≡ log_end_tag (log_to b old)
      unfolding walked_of
      tag_is = ap (λ (v : Walked). v.taken.etag) ew ∙ ap (λ (l : List ℕ). log_end_tag (log l)) (front_is b old)

      -- what is committed behind the old end, as the walk goes on
      on_is : (a t : ℕ) → a ≡ old → t ≡ log_end_tag (log_to b old)
          → committed (walk_from all_ones t (drop a (front b end))) ≡ between_ends b old old_ends inside end k.1
      on_is a t ea et = rw (ea, et, front_is b end)

      end_is : v.taken.off ≡ log_end (log_to b end)
      unfolding walked_again
      end_is = ap (λ (v : Walked). v.taken.off) ev
          ∙ ap₂ (λ (x y : ℕ). x + y) at (ap span (on_is w.taken.off w.taken.etag at tag_is))
          ∙ sym (end_next b old old_ends inside end k.1)

      far : 4 < end
      far = omega (arith, k.1)

      pub extend_past : v.taken.off ≢ end → Done (Err Irregular) T
      extend_past h = refused (rw (no_end b end far (λ e. h (end_is ∙ e))) (and-false (ends_at b old)))

      module _ (there : v.taken.off ≡ end) where
        is_end : log_end (log_to b end) ≡ end
        is_end = sym end_is ∙ there

        new_ends : ends_at b end ≡ true
        new_ends = an_end b end far is_end

        pub extend_committed : CommittedTo (front b end) end
        extend_committed = front_committed b end k.0 new_ends far is_end

        module _ (x : Bool) (ex : x ≡ Regular r (log (front b end))) where
          pub extend_irregular : not x ≡ true → Done (Err Irregular) T
          extend_irregular h = refused (rw (not_indexable b end k.0 new_ends far is_end r x ex h)
              (and-false (ends_at b old)))

          -- p is the table when it is trimmed
          module _ (h : not x ≡ false) {p : Places} {t : MutBor (List ℕ)} (q : Takes p t (leading t.now)) (same : t.now ≡ T) where
            onwards : Onwards (front b end) old w.taken.etag end
            onwards = record {
              sum = all_ones;
              ends = ap (λ (y : ℕ). old + y) (ap span (on_is old w.taken.etag refl tag_is))
                  ∙ sym (end_next b old old_ends inside end k.1) ∙ is_end;
            }

            taken : in_use p ≡ leading T
            taken = held q.has ∙ ap leading same

            long : length p.table.now ≡ length T
            long = q.stays.long ∙ ap length same

            pub extend_starts : Startable (front b end) old w.taken.etag end p
            extend_starts = record {
              onwards = onwards;
              small = (front_buildable b end k.0 new_ends far is_end r x ex h).small;
              has = rw (held q.has) q.has;
            }

            pub extend_done : {i : Result ℕ Refusal} {new : Places}
                → Runs (front b end) old w.taken.etag end p new i → Done i new.table.now
            unfolding onwards
            extend_done {i} {new} h' =
                let u = h'.ran onwards in
                let e : ran_on (length p.table.now) (in_use p)
                (placed_from old (committed (walk_from all_ones w.taken.etag (drop old (front b end)))))
                ≡ extended T b old end =
                rw (long, taken, on_is old w.taken.etag refl tag_is, new_acts_lem b old old_ends inside end k.1) in
                accepts (extendable r b old end) (extended T b old end) T
                (rw (old_ends, is_indexable b end k.0 new_ends far is_end r x ex h)) i new.table.now
                (u.answer ∙ ap indexed_as e)
                (u.left ∙ ap₂ (λ (m : ℕ) (v : Option (List ℕ)). table_as m v) long e)
