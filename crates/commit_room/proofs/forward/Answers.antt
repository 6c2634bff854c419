-- `commit_room::forward` meets its contract: by where the commit would end with it. Assumes nothing.
use Prim.Native.Nat.{◌+◌}
use native.Mathlib.Omega.{arith}
use Rattle.commit_room.proofs.Ends.{end_behind}
use Rattle.commit_room.proofs.Units.{forward_none, forward_made}
use Rattle.commit_room.proofs.forward.Goals as goal

pub overflow_add-at : goal.overflow_add-at
overflow_add-at c = omega (arith, c.requires.near)

pub rounded_end-requires : goal.rounded_end-requires
rounded_end-requires c = record { low = c.requires.low; high = c.requires.high; near = omega (arith, c.requires.near) }

pub overflow_add-rounded_end : goal.overflow_add-rounded_end
overflow_add-rounded_end c = omega (
  arith,
  c.rounded_end.ensures,
  c.requires.near,
  c.requires.high,
  (end_behind c.args.prog (c.args.at + 12) c.requires).1,
)

pub returns-then-block-rounded_end : goal.returns-then-block-rounded_end
returns-then-block-rounded_end c = forward_none _ _ _ _ _ c.rounded_end.ensures c.if-block-rounded_end.true

pub returns : goal.returns
returns c = forward_made _ _ _ _ _ c.rounded_end.ensures _ c.if-block-rounded_end.false
    c.unit_sum.ensures
