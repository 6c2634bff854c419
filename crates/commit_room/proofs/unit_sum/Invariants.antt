-- `commit_room::unit_sum` meets its contract. The loop keeps what the rest of the unit makes of the checksum. Assumes
-- nothing.
use Rattle.std.proofs.Common.{◌≡◌, ◌-◌}
use Rattle.format.specs.Word.{all_ones}
use Rattle.format.specs.Crc.{crc}
use Rattle.format.specs.Erased.{erased}
use Rattle.commit_room.proofs.unit_sum.Given as goal

abbrev pub invariant-loop : goal.invariant-loop
invariant-loop l = crc all_ones (erased l.erased l.prog) ≡ crc l.sum (erased l.erased (l.prog - l.counter))
