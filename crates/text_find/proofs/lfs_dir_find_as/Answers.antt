-- The text is put from the start, and is shorter than 2^32. Assumes nothing.
use Rattle.std.proofs.Common.{◌≡◌, length, rules, ◌∙◌}
use Rattle.format.specs.FindText.{found_text, find_text_as}
use Rattle.text.specs.Put.{Puts}
use Rattle.text.proofs.Written.{all_written}
use Rattle.text_find.proofs.Told.{name_refused, name_fits}
use Rattle.text_find.proofs.Fits.{find_short}
use Rattle.text_find.proofs.lfs_dir_find_as.Goals.{in-Ok, in-Err}
use Rattle.text_find.proofs.lfs_dir_find_as.Goals as goal

pub returns-then-is_empty : goal.returns-then-is_empty
returns-then-is_empty c =
    let a = c.args in
    let none : length a.name.now ≡ 0 = search rules in
    let put : Puts c.new-text.result c.refused.new.text
    (find_text_as a.prog_size a.numbers a.rules a.name.now a.kind a.input.now) =
    rw (← name_refused a.prog_size a.numbers a.rules a.name.now a.kind a.input.now none) c.refused.ensures in
    let all = all_written _ _ _ _ (find_short a.prog_size a.numbers a.rules a.name.now a.kind a.input.now)
    c.new-text.ensures put in
    record { value = c.len.ensures ∙ all.0; out_after = rw (← all.1) (search rules) }

pub returns : goal.returns
returns c =
    let a = c.args in
    let some : (length a.name.now ≡ 0 → ⊥) = search rules in
    let put : Puts c.new-text.result c.match-ask.text
    (find_text_as a.prog_size a.numbers a.rules a.name.now a.kind a.input.now) =
    rw (
      ← name_fits a.prog_size a.numbers a.rules a.name.now a.kind a.input.now some,
      ← c.ask.ensures.shown (λ r. found_text r a.name.now a.kind),
    )
    (elim c.match-ask.branch [ in-Ok w ↦ search rules | in-Err w ↦ search rules ]) in
    let all = all_written _ _ _ _ (find_short a.prog_size a.numbers a.rules a.name.now a.kind a.input.now)
    c.new-text.ensures put in
    record { value = c.len-2.ensures ∙ all.0; out_after = rw (← all.1) (search rules) }
