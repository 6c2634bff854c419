-- The text is put from the start, and is shorter than 2^32. Assumes nothing.
use Rattle.std.proofs.Common.{rules, ◌∙◌}
use Rattle.format.specs.Audit.{block_audit, audit_as}
use Rattle.text.specs.Put.{Puts}
use Rattle.text.proofs.Written.{all_written}
use Rattle.text_audit.proofs.Fits.{audit_short}
use Rattle.text_audit.proofs.lfs_dir_audit_as.Goals.{in-Ok, in-Err}
use Rattle.text_audit.proofs.lfs_dir_audit_as.Goals as goal

pub returns : goal.returns
returns c =
    let a = c.args in
    let put : Puts c.new-text.result c.match-ask.text (audit_as a.prog_size a.numbers a.rules a.input.now) =
    rw (← c.ask.ensures.shown block_audit) (elim c.match-ask.branch [ in-Ok w ↦ search rules | in-Err w ↦ search rules ]) in
    let all = all_written _ _ _ _ (audit_short a.prog_size a.numbers a.rules a.input.now) c.new-text.ensures put in
    record { value = c.len.ensures ∙ all.0; out_after = rw (← all.1) (search rules) }
