-- `find_name::lfs_dir_find` meets its contract: a rule that is none, an empty name, what fetch refuses, and the pass
-- over the block that answers. Assumes nothing.
use Rattle.std.proofs.Common.{◌≡◌, sym, ap, ◌∙◌, rules, Err, true, false, length}
use lib.Dec.{eqb}
use Rattle.format.specs.declared.Refusal.TheVariants.{Invalid}
use Rattle.format.proofs.TheRule.{rule_refused, rule_taken}
use Rattle.commit_regular.proofs.Found.{ends_block}
use Rattle.find_name.proofs.Called.{called_unruled, called_empty, called_refused, called}
use Rattle.find_name.proofs.lfs_dir_find.Goals as goal

pub returns-in_err-rules : goal.returns-in_err-rules
returns-in_err-rules c =
    let e : c.from_residual.result ≡ Err c.in_err-rules.field-0.0 = search rules in
    let r = rule_refused _ _ c.try_from.ensures _ c.in_err-rules.was in
    e ∙ ap Err r.1 ∙ called_unruled _ _ _ _ _ _ _ _ _ _ r.0

pub returns-then-is_empty : goal.returns-then-is_empty
returns-then-is_empty c =
    let z : eqb (length c.args.name.now) 0 ≡ true = search rules in
    called_empty _ _ _ _ _ _ _ _ _ _ z

pub returns-in_err-dir : goal.returns-in_err-dir
returns-in_err-dir c =
    let e : c.from_residual-in_err-dir.result ≡ Err c.in_err-dir.field-0.0 = search rules in
    let z : eqb (length c.args.name.now) 0 ≡ false = search rules in
    let r = rule_taken _ _ c.try_from.ensures _ c.in_ok-rules.was in
    e ∙ called_refused _ _ _ _ _ _ _ _ _ _ r.0 z _ (sym c.in_err-dir.was ∙ c.lfs_dir_fetch.ensures)

pub find_in-requires : goal.find_in-requires
find_in-requires c =
    ends_block _ _ _ _ _ _ _ _ _ (sym c.in_ok-dir.was ∙ c.lfs_dir_fetch.ensures) _ c.block_of-b.ensures

pub returns : goal.returns
returns c =
    let z : eqb (length c.args.name.now) 0 ≡ false = search rules in
    let r = rule_taken _ _ c.try_from.ensures _ c.in_ok-rules.was in
    called _ _ _ _ _ _ _ _ _ _ r.0 z _ (sym c.in_ok-dir.was ∙ c.lfs_dir_fetch.ensures) _ c.block_of-b.ensures
    _ r.1 _ c.find_in.ensures
