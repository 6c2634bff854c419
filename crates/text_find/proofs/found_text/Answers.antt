-- A slot that was found has seats. Assumes nothing.
use Rattle.std.proofs.Common.{sym, ◌∙◌}
use Rattle.format.specs.FindText.{found_text, named_text}
use Rattle.text_find.proofs.Told.{found_gathers, found_same}
use Rattle.text_find.proofs.found_text.Goals as goal

pub gather-seats-requires : goal.gather-seats-requires
gather-seats-requires c =
    let found = rw c.in-Ok-Some.field-0-is at (sym c.in-Ok-Some.is ∙ c.find_in.ensures) in
    found_gathers _ _ c.args.a.listable _ _ _ _ found

pub returns-in-Ok-Some : goal.returns-in-Ok-Some
unfolding found_text named_text
returns-in-Ok-Some c =
    let found = rw c.in-Ok-Some.field-0-is at (sym c.in-Ok-Some.is ∙ c.find_in.ensures) in
    rw (← found, ← found_same _ _ c.args.a.listable _ _ _ _ found _ c.gather-seats.ensures) c.slot_text.ensures
