-- A pair is opened: fetch's own refusals, -202, or the directory there. Assumes nothing.
use mathlib.Core.Path.{◌≡◌, sym, ap, ◌∙◌}
use mathlib.Core.Bool.{Bool, true, false}
use mathlib.Core.List.{List}
use Prim.Native.Nat.{ℕ, ◌<◌}
use native.Mathlib.Omega.{arith}
use Rattle.format.specs.Log.{log}
use Rattle.format.specs.Regular.{Regular}
use Rattle.format.specs.Volume.{blocks_in, block_in, fetch_in}
use Rattle.format.specs.Tree.{hard_tail, refused, open_in}
use Rattle.format.specs.declared.Geometry.{Geometry}
use Rattle.format.specs.declared.LfsPair.{LfsPair}
use Rattle.format.specs.declared.LfsMdir.{LfsMdir}
use Rattle.format.specs.declared.Rules.{Rules}
use Rattle.format.specs.declared.Rules.TheVariants.{Littlefs}
use Rattle.format.specs.declared.Refusal.{Refusal}
use Rattle.format.specs.declared.Refusal.TheVariants.{Irregular}
use Rattle.format.proofs.Growing.{widest}
use Rattle.theory.proofs.Compact.AcceptedVerdict.{slots_counted}
use Rattle.commit_regular.specs.Ends.{CommittedTo}
use Rattle.tree_theory.specs.InVolume.{there, number_inside, on_block, nodes_there}
use Rattle.tree_pair.specs.Pair.{Opens}
use Rattle.tree_pair.specs.declared.Dir.{Dir}
use Rattle.std.specs.Prelude.{Err, Ok, Some, None, cond}
use Rattle.std.specs.Bool.{then_some}
use Rattle.std.proofs.Common.{refl}
use Rattle.format.specs.Record.{fetched}

module _ (g : Geometry) (vol : List ℕ) (q : Rules) (p : LfsPair) where
  pub open_refused : (r : Refusal) → Err r ≡ fetch_in g vol p → open_in q g vol p ≡ refused r
  unfolding open_in
  open_refused r f = rw (← f)

  -- fetch found the record m
  module _ (m : LfsMdir) (s : ℕ) (f : Ok (fetched m s) ≡ fetch_in g vol p) where
    pub answers_inside : m.pair.n0 < blocks_in g vol
    answers_inside = number_inside g vol p m s (sym f)

    -- b is the block that answers
    module _ (b : List ℕ) (eb : b ≡ block_in g vol m.pair.n0) where
      pub committed : CommittedTo b m.off
      committed =
          let t = there g vol p m s (sym f) in
          rw eb (record { word = omega (arith, t.least); ends = t.ends })

      -- x is what the test of regularity answers
      module _ (x : Bool) (ex : x ≡ Regular q (log b)) where
        ruled : Regular q (log (block_in g vol m.pair.n0)) ≡ x
        ruled = ap (λ (z : List ℕ). Regular q (log z)) (sym eb) ∙ sym ex

        pub open_irregular : x ≡ false → open_in q g vol p ≡ refused Irregular
        unfolding open_in
        open_irregular h = rw (← f, ruled ∙ h)

        -- what the code keeps of it
        abbrev dir : Dir
        dir = record {
          block = m.pair.n0;
          end = m.off;
          etag = m.etag;
          count = m.count;
          tail = hard_tail m;
        }

        pub open_regular : x ≡ true → Opens g vol (open_in q g vol p) (Ok dir)
        unfolding open_in
        open_regular h =
            let is : Regular q (log (block_in g vol m.pair.n0)) ≡ true = ruled ∙ h in
            let wide : Regular Littlefs (log (block_in g vol m.pair.n0)) ≡ true = widest q _ is in (
              rw (← f, is, nodes_there g vol p m s (sym f) wide),
              record {
                inside = answers_inside;
                regularly = on_block g vol p m s (sym f) wide;
                count' = (there g vol p m s (sym f)).count' ∙ slots_counted (block_in g vol m.pair.n0) wide;
              },
            )

-- the tail as the library makes it of the mark
pub tail_kept : (m : LfsMdir) → then_some m.split m.tail ≡ hard_tail m
tail_kept m = go m.split
  where
    go : (b : Bool) → then_some b m.tail ≡ cond b (Some m.tail) None
    go true = refl
    go false = refl
