-- The record is one of the half that is taken. Assumes nothing.
use Rattle.std.proofs.Common.{rules, sym, ◌∙◌}
use Rattle.text_input.proofs.Input.{listable}
use Rattle.text_input.proofs.ask.Goals as goal

pub invariant_of-result : goal.invariant_of-result
invariant_of-result c =
    record { listable = listable _ _ _ _ (sym c.in_ok-dir.was ∙ c.fetch_input.ensures) _ (search rules) }
