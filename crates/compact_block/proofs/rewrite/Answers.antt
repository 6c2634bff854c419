-- `compact_block::rewrite` meets its contract: the first pass finds the verdict, and the second makes its stores.
-- Assumes nothing.
use Rattle.std.proofs.Common.{refl}
use Rattle.compact_block.proofs.Storing.{reads_all}
use Rattle.compact_block.proofs.Measuring.{rewrite_prog, rewrite_full, rewrite_coincides, rewrite_writes}
use Rattle.compact_block.proofs.Measuring.{rewrite_made}
use Rattle.compact_block.proofs.rewrite.Goals as goal

pub entries-e-requires : goal.entries-e-requires
entries-e-requires c =
    let p = c.requires in
    let w = p.0 in
    (rw c.begin-begun.ensures (reads_all _ w.low w.high _ _ _ _ w.recorded p.1), p.2)

pub rounded_end-requires : goal.rounded_end-requires
rounded_end-requires c =
    let p = c.requires in
    rewrite_prog _ _ _ _ _ 0 p.0 p.1 _ refl
    _ _ c.begin-begun.ensures _ c.entries-e.ensures

pub returns-then-old-rounded_end : goal.returns-then-old-rounded_end
returns-then-old-rounded_end c =
    let p = c.requires in let all = rewrite_full _ _ _ _ _ _ p.0 p.1 _ refl _ _ c.begin-begun.ensures _
    c.entries-e.ensures _ c.rounded_end.ensures c.if-old-rounded_end.true in record { value = all.0; after = all.1 }

pub check_tag-tag-requires : goal.check_tag-tag-requires
check_tag-tag-requires c =
    let p = c.requires in
    rewrite_prog _ _ _ _ _ 0 p.0 p.1 _ refl _ _ c.begin-begun.ensures _ c.entries-e.ensures

pub returns-then-coincides : goal.returns-then-coincides
returns-then-coincides c =
    let p = c.requires in let all = rewrite_coincides _ _ _ _ _ _ p.0 p.1 _ refl _ _ c.begin-begun.ensures _
    c.entries-e.ensures _ c.rounded_end.ensures c.if-old-rounded_end.false _ c.check_tag-tag.ensures _ c.coincides.ensures
    c.if-coincides.true in record { value = all.0; after = all.1 }

pub write-requires : goal.write-requires
write-requires c =
    let p = c.requires in (
      rewrite_writes _ _ _ _ _ 0 p.0 p.1 _ refl _ _ c.begin-begun.ensures _
          c.entries-e.ensures _ c.rounded_end.ensures c.if-old-rounded_end.false _ c.check_tag-tag.ensures _ c.coincides.ensures,
      p.2,
    )

pub returns : goal.returns
returns c =
    let p = c.requires in let all = rewrite_made _ _ _ _ _ _ p.0 p.1 _ refl _ _ c.begin-begun.ensures
    _
    c.entries-e.ensures _ c.rounded_end.ensures
    c.if-old-rounded_end.false _ c.check_tag-tag.ensures _ c.coincides.ensures
    c.if-coincides.false _ c.write.ensures.value _ c.write.ensures.after in record { value = all.0; after = all.1 }
