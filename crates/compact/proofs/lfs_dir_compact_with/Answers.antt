-- `compact::lfs_dir_compact_with` meets its contract: the same with all stores, and then what fetch gives. Assumes
-- nothing.
use Rattle.std.proofs.Common.{◌≡◌, sym, ◌∙◌, arith, rules, Err}
use Rattle.compact.proofs.Called.{answered_refused, answered_made}
use Rattle.compact.proofs.lfs_dir_compact_with.Goals as goal

pub returns-in_err-run : goal.returns-in_err-run
returns-in_err-run c =
    let e : c.from_residual.result ≡ Err c.in_err-run.field-0.0 = search rules in
    let stored = c.run.ensures in
    let all = answered_refused _ _ _ _ _ _ _ _ _ _ _ _ _ (λ i. omega (arith, c.slice_known-1.given i))
    (λ i. omega (arith, c.slice_known-2-1.given i)) (stored.compact_stores_leaves, stored.table_after) _
    (sym c.in_err-run.was ∙ stored.value) in
    record { value = e ∙ all.0; compact_leaves = all.1.0; table_after = all.1.1 }

pub returns : goal.returns
returns c =
    let stored = c.run.ensures in
    let all = answered_made _ _ _ _ _ _ _ _ _ _ _ _ _ (λ i. omega (arith, c.slice_known-1.given i))
    (λ i. omega (arith, c.slice_known-2-1.given i)) (stored.compact_stores_leaves, stored.table_after)
    _ (sym c.in_ok-run.was ∙ stored.value) _ c.lfs_dir_fetch.ensures in
    record { value = all.0; compact_leaves = all.1.0; table_after = all.1.1 }
