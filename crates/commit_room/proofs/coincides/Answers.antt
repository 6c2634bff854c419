-- `commit_room::coincides` meets its contract: the three lists are what is put of the tag, filled up. Assumes nothing.
use native.Mathlib.Omega.{arith}
use Rattle.commit_room.proofs.Cleared.{three}
use Rattle.commit_room.proofs.coincides.Goals as goal

pub returns : goal.returns
returns c = three _ c.args.sum
    c.args.word _ _ _ _
    c.be_bytes-tag.ensures
    c.lfs_crc.ensures c.lfs_crc-2.ensures
    c.lfs_crc-3.ensures

pub overflow_mul-four : goal.overflow_mul-four
overflow_mul-four c = omega arith
