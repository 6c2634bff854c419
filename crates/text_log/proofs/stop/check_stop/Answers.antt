-- Both checksums, and the stop. Assumes nothing.
use Rattle.format.specs.RawLog.{check_stop}
use Rattle.text.proofs.Joined.{puts_both}
use Rattle.text_log.proofs.StopShown.{stored_is, computed_is}
use Rattle.text_log.proofs.stop.check_stop.Goals as goal

pub returns : goal.returns
unfolding check_stop
returns c =
    rw (
      ← stored_is c.args.b.now c.args.place _ c.le32-stored.ensures,
      ← computed_is c.args.b.now c.args.place _ _ c.lfs_crc-computed.ensures,
    )
    (puts_both _ _ _ _ _ c.tag_columns.ensures (puts_both _ _ _ _ _ c.puts.ensures
    (puts_both _ _ _ _ _ c.hex_word.ensures (puts_both _ _ _ _ _ c.puts-2.ensures
    (puts_both _ _ _ _ _ c.hex_word-2.ensures (puts_both _ _ _ _ _ c.puts-3.ensures c.stop_line.ensures))))))
