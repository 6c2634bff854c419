-- The word is a part of the reason. Assumes nothing.
use Rattle.format.specs.RawLog.{hex_word, invalid_stop}
use Rattle.std.proofs.Common.{◌++◌}
use Rattle.format.specs.Listing.{ascii}
use Rattle.text.proofs.Joined.{puts_both}
use Rattle.text_log.proofs.StopShown.{stop_more}
use Rattle.text_log.proofs.stop.invalid_stop.Goals as goal

pub returns : goal.returns
unfolding invalid_stop
returns c = rw (← c.be32-word.ensures, ← stop_more c.args.place (ascii "no valid tag, the word there is ") (hex_word c.be32-word.result ++ ascii "\n")) (puts_both _ _ _ _ _ c.stop_line.ensures
    (puts_both _ _ _ _ _ c.hex_word.ensures c.puts.ensures))
