-- `index::lfs_dir_index` meets its contract: the tests decide the definitions' case (`Called.antt`). Assumes nothing.
use Rattle.std.proofs.Common.{◌≡◌, ap, ◌∙◌, rules, Err}
use Rattle.format.proofs.TheRule.{rule_refused, rule_taken}
use Rattle.sizes.proofs.Records.{of_block}
use Rattle.index.specs.Blocks.{InBlock}
use Rattle.index.proofs.Called.{index_unruled, index_refused, index_inside, index_read}
use Rattle.index.proofs.lfs_dir_index.Goals as goal

pub returns-in_err-rules : goal.returns-in_err-rules
returns-in_err-rules c =
    let a = c.args in
    let e : c.from_residual.result ≡ Err c.in_err-rules.field-0.0 = search rules in
    let r = rule_refused _ _ c.try_from.ensures _ c.in_err-rules.was in
    let all = index_unruled a.pair.g a.pair.b0.now a.pair.b1.now a.pair.n0 a.pair.n1 a.dir a.rules a.table.now r.0 in
    record { value = e ∙ ap Err r.1 ∙ all.0; table_after = all.1 }

pub returns-then-not-takes : goal.returns-then-not-takes
returns-then-not-takes c =
    let a = c.args in
    let r = rule_taken _ _ c.try_from.ensures _ c.in_ok-rules.was in
    let all = index_refused a.pair.g a.pair.b0.now a.pair.b1.now a.pair.n0 a.pair.n1 a.dir a.rules a.table.now r.0 _ c.takes.ensures
    c.if-not-takes.true in
    record { value = all.0; table_after = all.1 }

pub index_block-requires : goal.index_block-requires
index_block-requires c =
    let a = c.args in
    let r = rule_taken _ _ c.try_from.ensures _ c.in_ok-rules.was in
    of_block a.pair.b0.now a.pair.b1.now a.pair.n0 a.dir (λ b. InBlock b a.dir.off)
    (index_inside a.pair.g a.pair.b0.now a.pair.b1.now a.pair.n0 a.pair.n1 a.dir a.rules a.table.now r.0 _ c.takes.ensures
    c.if-not-takes.false) _ c.block_of-b.ensures

pub returns : goal.returns
returns c =
    let a = c.args in
    let r = rule_taken _ _ c.try_from.ensures _ c.in_ok-rules.was in
    let all = index_read a.pair.g a.pair.b0.now a.pair.b1.now a.pair.n0 a.pair.n1 a.dir a.rules a.table.now r.0 _ c.takes.ensures
    c.if-not-takes.false _ c.block_of-b.ensures _ r.1 _ _ c.index_block.ensures.value c.index_block.ensures.table_after in
    record { value = all.0; table_after = all.1 }
