-- `compact::run` meets its contract: a rule or an erased byte that is none, what fetch refuses, and either block's
-- compaction into the other. Assumes nothing.
use Rattle.std.proofs.Common.{◌≡◌, sym, ap, refl, not, ◌∙◌, arith, rules, Err}
use Rattle.format.proofs.TheRule.{rule_refused, rule_taken}
use Rattle.compact.proofs.Called.{kept, rule_unfit, renews_first, renews_second, called_invalid}
use Rattle.compact.proofs.Called.{called_refused, called_first, called_second}
use Rattle.compact.proofs.run.Goals as goal

pub returns-then-not-writes_fit : goal.returns-then-not-writes_fit
returns-then-not-writes_fit c =
    let all = kept _ _ _ _ _ _ _ _ _ _ _ _ _ _ _ (λ i. omega (arith, c.type_inv.b0 i)) (λ i. omega (arith, c.type_inv.b1 i))
    (called_invalid _ _ _ _ _ _ _ _ _ _ refl _ _ (sym c.writes_fit.ensures ∙ c.if-not-writes_fit.true)) in
    record { value = all.0; compact_stores_leaves = all.1.0; table_after = all.1.1 }

pub returns-in_err-rules : goal.returns-in_err-rules
returns-in_err-rules c =
    let e : c.from_residual.result ≡ Err c.in_err-rules.field-0.0 = search rules in
    let r = rule_refused _ _ c.try_from.ensures _ c.in_err-rules.was in
    let all = kept _ _ _ _ _ _ _ _ _ _ _ _ _ _ _ (λ i. omega (arith, c.type_inv.b0 i)) (λ i. omega (arith, c.type_inv.b1 i))
    (called_invalid _ _ _ _ _ _ _ _ _ _ refl _ _ (rule_unfit c.args.rules c.args.erased r.0)) in
    record { value = e ∙ ap Err r.1 ∙ all.0; compact_stores_leaves = all.1.0; table_after = all.1.1 }

pub returns-in_err-dir : goal.returns-in_err-dir
returns-in_err-dir c =
    let e : c.from_residual-in_err-dir.result ≡ Err c.in_err-dir.field-0.0 = search rules in
    let all = kept _ _ _ _ _ _ _ _ _ _ _ _ _ _ _ (λ i. omega (arith, c.slice_known-1.given i))
    (λ i. omega (arith, c.slice_known-2-1.given i))
    (called_refused _ _ _ _ _ _ _ _ _ _ refl
    (sym c.writes_fit.ensures ∙ c.if-not-writes_fit.false) _ _ _
    (sym c.in_err-dir.was ∙ c.lfs_dir_fetch.ensures)) in
    record { value = e ∙ all.0; compact_stores_leaves = all.1.0; table_after = all.1.1 }

pub renew-requires : goal.renew-requires
renew-requires c =
    renews_first _ _ _ _ _ _ _ c.args.rules c.args.erased _ refl
    (sym c.writes_fit.ensures ∙ c.if-not-writes_fit.false) _ _
    (sym c.in_ok-dir.was ∙ c.lfs_dir_fetch.ensures) c.if-dir-n0.true

pub renew-requires-else-dir-n0 : goal.renew-requires-else-dir-n0
renew-requires-else-dir-n0 c =
    renews_second _ _ _ _ _ _ _ c.args.rules c.args.erased _ refl
    (sym c.writes_fit.ensures ∙ c.if-not-writes_fit.false) _ _
    (sym c.in_ok-dir.was ∙ c.lfs_dir_fetch.ensures) c.if-dir-n0.false

pub returns-then-dir-n0 : goal.returns-then-dir-n0
returns-then-dir-n0 c =
    let renewed = c.renew.ensures in
    let r = rule_taken _ _ c.try_from.ensures _ c.in_ok-rules.was in
    let all = kept _ _ _ _ _ _ _ _ _ _ _ _ _ _ _ (λ i. omega (arith, c.slice_known-1.given i))
    (λ i. omega (arith, c.slice_known-2-1.given i))
    (called_first _ _ _ _ _ _ _ _ _ _ refl
    (sym c.writes_fit.ensures ∙ c.if-not-writes_fit.false) _ _
    (sym c.in_ok-dir.was ∙ c.lfs_dir_fetch.ensures) c.if-dir-n0.true _ r.1 _ _ _
    renewed.value renewed.after _ _ renewed.table_after) in
    record { value = all.0; compact_stores_leaves = all.1.0; table_after = all.1.1 }

pub returns-else-dir-n0 : goal.returns-else-dir-n0
returns-else-dir-n0 c =
    let renewed = c.renew-else-dir-n0.ensures in
    let r = rule_taken _ _ c.try_from.ensures _ c.in_ok-rules.was in
    let all = kept _ _ _ _ _ _ _ _ _ _ _ _ _ _ _ (λ i. omega (arith, c.slice_known-1.given i))
    (λ i. omega (arith, c.slice_known-2-1.given i))
    (called_second _ _ _ _ _ _ _ _ _ _ refl
    (sym c.writes_fit.ensures ∙ c.if-not-writes_fit.false) _ _
    (sym c.in_ok-dir.was ∙ c.lfs_dir_fetch.ensures) c.if-dir-n0.false _ r.1 _ _ _
    renewed.value renewed.after _ _ renewed.table_after) in
    record { value = all.0; compact_stores_leaves = all.1.0; table_after = all.1.1 }
