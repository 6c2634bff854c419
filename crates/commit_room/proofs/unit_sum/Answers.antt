-- `commit_room::unit_sum` meets its contract. The loop keeps what the rest of the unit makes of the checksum. Assumes
-- nothing.
use Rattle.std.proofs.Common.{◌≡◌, sym, ap, ◌∙◌, ℕ, ◌+◌, ◌-◌, arith}
use Rattle.format.specs.Crc.{crc}
use Rattle.format.specs.Erased.{erased}
use Rattle.commit_room.proofs.Units.{unit_on, unit_end}
use Rattle.commit_room.proofs.unit_sum.Goals as goal

pub loop-init : goal.loop-init
loop-init c =
    let e : c.args.prog - 0 ≡ c.args.prog = omega arith in
    rw e

pub loop-preserved : goal.loop-preserved
loop-preserved c = c.loop.invariant ∙ unit_on _ _ _ _ c.loop-test.true
    ∙ ap (λ (s : ℕ). crc s (erased c.args.erased (c.args.prog - (c.loop.counter + 1)))) (sym c.lfs_crc_byte-sum.ensures)

pub returns : goal.returns
returns c = sym (c.loop.invariant ∙ unit_end _ _ _ _ c.loop-test.false)
