-- `compact_entries::entries` meets its contract: all that the block holds, and the forward check. Assumes nothing.
use mathlib.Core.Path.{refl}
use native.Mathlib.Omega.{arith}
use Rattle.compact_entries.proofs.Sourced.{held_within, forward_prog, all_done}
use Rattle.compact_entries.proofs.entries.Goals as goal

pub held-w-requires : goal.held-w-requires
held-w-requires c = (c.requires.0.read, c.requires.1)

pub forward-fcrc-requires : goal.forward-fcrc-requires
forward-fcrc-requires c = forward_prog _ _ _ _ c.requires.0 _ _
    refl c.held-w.ensures

pub forward-requires : goal.forward-requires
forward-requires c = omega (
  arith,
  held_within _ _ _ _ c.requires.0 _ _ refl c.held-w.ensures,
)

pub returns : goal.returns
returns c = all_done _ _ _ _ c.requires.0 _ _ refl c.held-w.ensures _ _ c.forward-fcrc.ensures _ c.forward.ensures
