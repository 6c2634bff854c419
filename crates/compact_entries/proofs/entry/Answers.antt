-- `compact_entries::entry` meets its contract: stores, end, previous tag and checksum, each by its callee. Assumes
-- nothing.
use Rattle.compact_entries.specs.Emitted.{standing}
use Rattle.compact_entries.proofs.Written.{xor_is, entry_done}
use Rattle.compact_entries.proofs.entry.Goals as goal

pub returns : goal.returns
returns c = entry_done (standing c.args.e c.args.new.now) _ _ _
    _ _ _ (xor_is _ _) c.put_entry-run.ensures
    c.lfs_tag_dsize.ensures c.sum_entry.ensures
