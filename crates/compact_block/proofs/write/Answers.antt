-- `compact_block::write` meets its contract: all calls are one run of compaction's bytes over an erased block.
-- Assumes
-- nothing.
use Rattle.std.proofs.Common.{arith}
use Rattle.compact_block.proofs.Storing.{pass_none, reads_all, pass_made, pass_block}
use Rattle.compact_block.proofs.write.Goals as goal

pub returns-then-stores-eq0 : goal.returns-then-stores-eq0
returns-then-stores-eq0 c =
    let a = c.args in let all = pass_none a.erased a.prog a.old.now _ _ a.tag _ c.if-stores-eq0.true in record { value = all.0; after = all.1 }

pub entries-e-requires : goal.entries-e-requires
entries-e-requires c =
    let p = c.requires in
    let w = p.0 in
    (rw c.begin-begun.ensures (reads_all _ w.low w.high _ _ _ _ w.recorded w.regular), p.1)

pub overflow_cast-result : goal.overflow_cast-result
overflow_cast-result c =
    let made = pass_made _ _ _ _ _ c.requires.0
    _ _ _ c.if-stores-eq0.false _ (c.fill.ensures.after (λ y e. e)) _ c.put_le32-run.ensures _ _
    c.begin-begun.ensures _ c.entries-e.ensures _ c.check-last.ensures in
    omega (
      arith,
      made,
      c.ranges.stores,
    )

pub overflow_add-result : goal.overflow_add-result
overflow_add-result c =
    let made = pass_made _ _ _ _ _ c.requires.0
    _ _ _ c.if-stores-eq0.false _ (c.fill.ensures.after (λ y e. e)) _ c.put_le32-run.ensures _ _
    c.begin-begun.ensures _ c.entries-e.ensures _ c.check-last.ensures in
    omega (
      arith,
      made,
      c.ranges.stores,
    )

pub returns : goal.returns
returns c = record {
  value = pass_made _ _ _ _ _ c.requires.0 _ _ _
      c.if-stores-eq0.false _ (c.fill.ensures.after (λ y e. e)) _ c.put_le32-run.ensures _
      _
      c.begin-begun.ensures _ c.entries-e.ensures _ c.check-last.ensures;
  after = pass_block _ _ _ _ _ c.requires.0 _ _ _
      c.if-stores-eq0.false _ (c.fill.ensures.after (λ y e. e)) _ c.put_le32-run.ensures _
      _
      c.begin-begun.ensures _ c.entries-e.ensures _ c.check-last.ensures;
}
