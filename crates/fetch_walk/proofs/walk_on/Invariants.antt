-- `fetch_walk::walk_on` meets its contract. The loop keeps what the walk from here leaves on the state now; the block's
-- rest shrinks. Assumes nothing.
use mathlib.Core.Path.{◌≡◌}
use Prim.Native.Nat.{◌-◌}
use lib.ListN.{length}
use Rattle.fetch_walk.specs.State.{leaves}
use Rattle.fetch_walk.proofs.walk_on.Given as goal

abbrev pub invariant-loop-tag : goal.invariant-loop-tag
invariant-loop-tag l = leaves l.b l.initial.w l.initial.c ≡ leaves l.b l.w l.c

abbrev pub decreases-loop-tag : goal.decreases-loop-tag
decreases-loop-tag l = length l.b - l.c.at
