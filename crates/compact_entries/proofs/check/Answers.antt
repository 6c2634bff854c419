-- `compact_entries::check` meets its contract: the tag's four bytes and then the checksum's. Assumes nothing.
use Rattle.compact_entries.proofs.Written.{xor_is, check_done}
use Rattle.compact_entries.proofs.check.Goals as goal

pub returns : goal.returns
returns c = check_done _ _ _ _ _ _ _ _ (xor_is _ _)
    c.put_be32-run.ensures
    c.sum_be32.ensures c.put_le32.ensures
