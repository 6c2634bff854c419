-- `compact_block::renew` meets its contract: a log that is irregular, or the compaction with the table's places, or
-- without. Assumes nothing.
use Rattle.std.proofs.Common.{ap, not, refl}
use Rattle.std.specs.Prelude.{option_copied}
use Rattle.compact_entries.specs.Placed.{Indexes}
use Rattle.compact_block.proofs.Lent.{renew_irregular, renew_done, renew_regular, renew_builds}
use Rattle.compact_block.proofs.Lent.{lent_places, indexes_some, indexes_none}
use Rattle.compact_block.proofs.renew.Goals.{in-Ok, in-Err}
use Rattle.compact_block.proofs.renew.Goals as goal

pub log_regular-requires : goal.log_regular-requires
log_regular-requires c =
    let w = c.requires.recorded in
    record { word = w.word; ends = w.ends }

pub returns-then-not-log_regular : goal.returns-then-not-log_regular
returns-then-not-log_regular c =
    let a = c.args in
    let all = renew_irregular _ a.rules _ c.log_regular.ensures a.erased a.prog _ _ a.stores
    (ap not c.if-not-log_regular.true) in
    record { value = all.0; after = all.1.0; table_after = all.1.1 }

pub build-requires : goal.build-requires
build-requires c =
    renew_builds _ c.args.rules _ c.log_regular.ensures (ap not c.if-not-log_regular.false) _ c.requires.recorded

pub rewrite-requires : goal.rewrite-requires
rewrite-requires c =
    let a = c.args in
    let m = c.match-build in
    let t = c.build.ensures in
    let regular = ap not c.if-not-log_regular.false in
    let are : Indexes a.old.now (option_copied m.places)
    = elim m.branch [
      | in-Ok w ↦ indexes_some _ _ _ (ap option_copied w.places-is)
          (lent_places _ a.rules _ c.log_regular.ensures regular _ _ t.value _ t.table_after c.build.auto.table
          _ w.in-Ok.is _ refl)
      | in-Err w ↦ indexes_none _ _ (ap option_copied w.places-is)
    ] in (
      c.requires,
      renew_regular _ a.rules _ c.log_regular.ensures regular,
      are,
    )

pub returns : goal.returns
returns c =
    let a = c.args in
    let all = renew_done _ a.rules _ c.log_regular.ensures a.erased a.prog _ _ a.stores
    (ap not c.if-not-log_regular.false) _ c.build.ensures.table_after _ _ c.rewrite.ensures.value
    c.rewrite.ensures.after in
    record { value = all.0; after = all.1.0; table_after = all.1.1 }
