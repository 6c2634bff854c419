-- `compact_entries::tail` meets its contract: nothing, or one entry of eight bytes. Assumes nothing.
use Rattle.compact_entries.proofs.Written.{tail_none, tail_made}
use Rattle.compact_entries.proofs.tail.Goals as goal

pub returns-then-split-n0 : goal.returns-then-split-n0
returns-then-split-n0 c = tail_none _ c.args.split c.args.pair c.if-split-n0.true

pub returns : goal.returns
returns c = tail_made _ c.args.split
    c.args.pair
    c.if-split-n0.false _
    c.tail_type.ensures _
    c.lfs_mktag.ensures _
    c.le_pair-dat.ensures _ c.entry.ensures
