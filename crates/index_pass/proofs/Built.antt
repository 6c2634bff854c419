-- A build: the run of a whole log on an empty table. Assumes nothing.
use mathlib.Core.Path.{◌≡◌, sym, ap, ap₂, ◌∙◌}
use mathlib.Core.List.{List, []}
use Prim.Native.Nat.{ℕ, ◌*◌}
use lib.ListN.{length, take}
use Rattle.format.specs.Word.{all_ones}
use Rattle.format.specs.Crc.{crc}
use Rattle.format.specs.Walk.{walk}
use Rattle.format.specs.Log.{log}
use Rattle.format.specs.Index.{placed_from, ran_on, indexed_as, table_as, built}
use Rattle.index_theory.specs.Ran.{built_is}
use Rattle.commit_regular.specs.Ends.{Onwards}
use Rattle.index_table.specs.Held.{in_use, Takes}
use Rattle.index_table.specs.declared.Places.{Places}
use Rattle.index_pass.specs.Run.{Startable, Runs, Buildable}
use Rattle.std.specs.Borrow.{MutBor}
use Rattle.std.specs.Prelude.{Result}
use Rattle.format.specs.declared.Refusal.{Refusal}

module _ {b : List ℕ} {end : ℕ} (k : Buildable b end) where
  onwards : Onwards b 4 all_ones end
  unfolding log walk
  onwards = record { sum = crc all_ones (take 4 b); ends = sym k.ends }

  -- p is the table when it is cleared
  module _ {p : Places} {t : MutBor (List ℕ)} (c : Takes p t []) where
    in_use_is : in_use p ≡ []
    in_use_is = let e : 2 * p.used ≡ 0 = sym c.has.size in ap (λ (n : ℕ). take n p.table.now) e

    pub build_starts : Startable b 4 all_ones end p
    build_starts = record { onwards = onwards; small = k.small; has = rw in_use_is c.has }

    pub build_done : {r : Result ℕ Refusal} {new : Places} → Runs b 4 all_ones end p new r
        → (r ≡ indexed_as (built (length t.now) (log b)))
        × (new.table.now ≡ table_as (length t.now) (built (length t.now) (log b)))
    unfolding log walk onwards
    build_done h =
        let u = h.ran onwards in
        let e : ran_on (length p.table.now) (in_use p) (placed_from 4 (log b)) ≡ built (length t.now) (log b) =
        rw (c.stays.long, in_use_is) (sym (built_is (length t.now) b k.regular)) in
        (u.answer ∙ ap indexed_as e, u.left ∙ ap₂ table_as c.stays.long e)
