-- `index::index_block` meets its contract, by its tests. Assumes nothing.
use Rattle.index.proofs.Block.{block_low, block_off, block_committed, block_irregular, block_buildable}
use Rattle.index.proofs.Block.{block_built}
use Rattle.std.proofs.Common.{ap, not}
use Rattle.index.proofs.index_block.Goals as goal

pub returns-then-end-le4 : goal.returns-then-end-le4
returns-then-end-le4 c = let all = block_low c.args.rules _ _ _ c.if-end-le4.true in record { value = all.0; table_after = all.1 }

pub returns-then-walked-end : goal.returns-then-walked-end
returns-then-walked-end c = let all = block_off c.args.rules _ _ _ c.requires c.if-end-le4.false _ c.walk_block-walked.ensures c.if-walked-end.true in record { value = all.0; table_after = all.1 }

pub log_regular-requires : goal.log_regular-requires
log_regular-requires c = block_committed c.args.rules _ _ c.args.table.now c.requires c.if-end-le4.false _ c.walk_block-walked.ensures c.if-walked-end.false

pub returns-then-not-log_regular : goal.returns-then-not-log_regular
returns-then-not-log_regular c = let all = block_irregular c.args.rules _ _ _ c.requires c.if-end-le4.false _ c.walk_block-walked.ensures c.if-walked-end.false _ c.log_regular.ensures (ap not c.if-not-log_regular.true) in record { value = all.0; table_after = all.1 }

pub build-requires : goal.build-requires
build-requires c = block_buildable c.args.rules _ _ c.args.table.now c.requires c.if-end-le4.false _ c.walk_block-walked.ensures c.if-walked-end.false _ c.log_regular.ensures (ap not c.if-not-log_regular.false)

pub returns : goal.returns
returns c = let all = block_built c.args.rules _ _ c.args.table.now c.requires c.if-end-le4.false _ c.walk_block-walked.ensures c.if-walked-end.false _ c.log_regular.ensures (ap not c.if-not-log_regular.false) _ _ c.build.ensures.value c.build.ensures.table_after in record { value = all.0; table_after = all.1 }
