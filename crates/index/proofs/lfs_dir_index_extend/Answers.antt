-- `index::lfs_dir_index_extend` meets its contract: the tests decide the definitions' case (`Called.antt`). Assumes
-- nothing.
use Rattle.std.proofs.Common.{◌≡◌, ◌≤◌, ap, ◌∙◌, rules, Err}
use Rattle.format.proofs.TheRule.{rule_refused, rule_taken}
use Rattle.sizes.proofs.Records.{of_block}
use Rattle.index.specs.Blocks.{InBlock}
use Rattle.index.proofs.Called.{extend_unruled, extend_refused, extend_inside, extend_read}
use Rattle.index.proofs.lfs_dir_index_extend.Goals as goal

pub returns-in_err-rule : goal.returns-in_err-rule
returns-in_err-rule c =
    let a = c.args in
    let e : c.from_residual.result ≡ Err c.in_err-rule.field-0.0 = search rules in
    let r = rule_refused _ _ c.try_from.ensures _ c.in_err-rule.was in
    let all = extend_unruled a.pair.g a.pair.b0.now a.pair.b1.now a.pair.n0 a.pair.n1 a.old a.dir a.rules a.table.now r.0 in
    record { value = e ∙ ap Err r.1 ∙ all.0; table_after = all.1 }

pub returns-then-not-fits-old : goal.returns-then-not-fits-old
returns-then-not-fits-old c =
    let a = c.args in
    let r = rule_taken _ _ c.try_from.ensures _ c.in_ok-rule.was in
    let all = extend_refused a.pair.g a.pair.b0.now a.pair.b1.now a.pair.n0 a.pair.n1 a.old a.dir a.rules a.table.now r.0 _ c.takes.ensures
    _ c.takes-2.ensures c.if-not-fits-old.true in
    record { value = all.0; table_after = all.1 }

pub extend_block-requires : goal.extend_block-requires
extend_block-requires c =
    let a = c.args in
    let r = rule_taken _ _ c.try_from.ensures _ c.in_ok-rule.was in
    of_block a.pair.b0.now a.pair.b1.now a.pair.n0 a.dir (λ b. InBlock b a.dir.off × (a.old.off ≤ a.dir.off))
    (extend_inside a.pair.g a.pair.b0.now a.pair.b1.now a.pair.n0 a.pair.n1 a.old a.dir a.rules a.table.now r.0 _ c.takes.ensures
    _ c.takes-2.ensures c.if-not-fits-old.false) _ c.block_of-b.ensures

pub returns : goal.returns
returns c =
    let a = c.args in
    let r = rule_taken _ _ c.try_from.ensures _ c.in_ok-rule.was in
    let all = extend_read a.pair.g a.pair.b0.now a.pair.b1.now a.pair.n0 a.pair.n1 a.old a.dir a.rules a.table.now r.0 _ c.takes.ensures
    _ c.takes-2.ensures c.if-not-fits-old.false _ c.block_of-b.ensures _ r.1 _ _ c.extend_block.ensures.value
    c.extend_block.ensures.table_after in
    record { value = all.0; table_after = all.1 }
