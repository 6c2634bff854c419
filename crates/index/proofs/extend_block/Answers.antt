-- `index::extend_block` meets its contract, by its tests. Assumes nothing.
use Rattle.index.proofs.Extend.{extend_low, extend_off, extend_past, extend_committed, extend_irregular}
use Rattle.index.proofs.Extend.{extend_starts, extend_done}
use borrow.Author.Rules.{rules}
use Rattle.std.proofs.Common.{ap, refl, not}
use Rattle.index.proofs.extend_block.Goals as goal

pub returns-then-old-le4 : goal.returns-then-old-le4
returns-then-old-le4 c = let all = extend_low c.args.rules _ _ c.args.end _ c.if-old-le4.true in record { value = all.0; table_after = all.1 }

pub returns-then-known-old : goal.returns-then-known-old
returns-then-known-old c = let all = extend_off c.args.rules _ _ _ _ c.requires c.if-old-le4.false _ c.walk_block-walked.ensures c.if-known-old.true in record { value = all.0; table_after = all.1 }

pub returns-then-on-end : goal.returns-then-on-end
returns-then-on-end c = let all = extend_past c.args.rules _ _ _ _ c.requires c.if-old-le4.false _ c.walk_block-walked.ensures c.if-known-old.false _ c.walk_again-on.ensures c.if-on-end.true in record { value = all.0; table_after = all.1 }

pub log_regular-requires : goal.log_regular-requires
log_regular-requires c = extend_committed c.args.rules _ _ _ c.args.table.now c.requires c.if-old-le4.false _ c.walk_block-walked.ensures c.if-known-old.false _ c.walk_again-on.ensures c.if-on-end.false

pub returns-then-not-log_regular : goal.returns-then-not-log_regular
returns-then-not-log_regular c = let all = extend_irregular c.args.rules _ _ _ _ c.requires c.if-old-le4.false _ c.walk_block-walked.ensures c.if-known-old.false _ c.walk_again-on.ensures c.if-on-end.false _ c.log_regular.ensures (ap not c.if-not-log_regular.true) in record { value = all.0; table_after = all.1 }

pub run_on-requires : goal.run_on-requires
run_on-requires c = extend_starts c.args.rules _ _ _ c.args.table.now c.requires c.if-old-le4.false _ c.walk_block-walked.ensures c.if-known-old.false _ c.walk_again-on.ensures c.if-on-end.false _ c.log_regular.ensures (ap not c.if-not-log_regular.false) c.trimmed-places.ensures refl

pub returns : goal.returns
returns c = let all = extend_done c.args.rules _ _ _ c.args.table.now c.requires c.if-old-le4.false _ c.walk_block-walked.ensures c.if-known-old.false _ c.walk_again-on.ensures c.if-on-end.false _ c.log_regular.ensures (ap not c.if-not-log_regular.false) c.trimmed-places.ensures refl c.run_on.ensures in record { value = all.0; table_after = rw (← all.1) (search rules) }
