-- Fetch, and then the test of the log. Assumes nothing.
use Rattle.std.proofs.Common.{sym, ◌∙◌}
use Rattle.std.proofs.lemmas.Result.{err_from_is_err_and}
use Rattle.tree_pair.proofs.Opened.{open_refused, answers_inside, committed, open_irregular, open_regular, tail_kept}
use Rattle.tree_pair.proofs.open_in.Goals as goal

pub returns-in_err-m : goal.returns-in_err-m
returns-in_err-m c =
    let p = err_from_is_err_and c.from_residual.result c.from_residual.ensures.1 in
    rw (p.1, p.2) (open_refused _ _ c.args.rules _ _ (sym c.in_err-m.was ∙ c.fetch.ensures))

pub block-b-requires : goal.block-b-requires
block-b-requires c = answers_inside _ _ c.args.rules _ _ _ (sym c.in_ok-m.was ∙ c.fetch.ensures)

pub log_regular-requires : goal.log_regular-requires
log_regular-requires c =
    committed _ _ c.args.rules _ _ _ (sym c.in_ok-m.was ∙ c.fetch.ensures) _ c.block-b.ensures

pub returns-then-not-log_regular : goal.returns-then-not-log_regular
returns-then-not-log_regular c =
    open_irregular _ _ c.args.rules _ _ _ (sym c.in_ok-m.was ∙ c.fetch.ensures) _ c.block-b.ensures _
    c.log_regular.ensures c.if-not-log_regular.true

pub returns : goal.returns
returns c =
    rw (c.then_some.ensures ∙ tail_kept c.in_ok-m.field-0.dir) (open_regular _ _ c.args.rules _ _ _ (sym c.in_ok-m.was ∙ c.fetch.ensures) _ c.block-b.ensures _
    c.log_regular.ensures c.if-not-log_regular.false)
