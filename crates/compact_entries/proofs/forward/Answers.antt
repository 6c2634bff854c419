-- `compact_entries::forward` meets its contract: nothing, or one entry of eight bytes. Assumes nothing.
use Rattle.compact_entries.proofs.Written.{forward_none, forward_made}
use Rattle.compact_entries.proofs.forward.Goals as goal

pub returns-then-not-fcrc : goal.returns-then-not-fcrc
returns-then-not-fcrc c = forward_none _ c.args.fcrc c.if-not-fcrc.true

pub returns : goal.returns
returns c = forward_made _ c.args.fcrc
    c.if-not-fcrc.false _
    c.le_pair-dat.ensures _ c.entry.ensures
