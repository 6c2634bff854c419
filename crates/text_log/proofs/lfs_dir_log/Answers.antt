-- Both blocks, and behind them which answers; the text is shorter than 2^32. Assumes nothing.
use Rattle.std.proofs.Common.{rules, ◌∙◌}
use Rattle.format.specs.RawLog.{raw_log_of, answer_line}
use Rattle.text.specs.Put.{Puts}
use Rattle.text.proofs.Joined.{puts_both}
use Rattle.text.proofs.Written.{all_written}
use Rattle.text_log.proofs.Fits.{raw_short}
use Rattle.text_log.proofs.lfs_dir_log.Goals.{in-Ok, in-Err}
use Rattle.text_log.proofs.lfs_dir_log.Goals as goal

pub returns : goal.returns
returns c =
    let a = c.args in
    let last : Puts c.block_logs.new.text c.match-fetch_input.text (answer_line c.fetch_input.result) =
    elim c.match-fetch_input.branch [ in-Ok w ↦ search rules | in-Err w ↦ search rules ] in
    let put : Puts c.new-text.result c.match-fetch_input.text (raw_log_of a.full a.prog_size a.numbers a.input.now) =
    rw (← c.fetch_input.ensures) (puts_both _ _ _ _ _ c.block_logs.ensures last) in
    let all = all_written _ _ _ _ (raw_short a.full a.prog_size a.numbers a.input.now) c.new-text.ensures put in
    record { value = c.len.ensures ∙ all.0; out_after = rw (← all.1) (search rules) }
