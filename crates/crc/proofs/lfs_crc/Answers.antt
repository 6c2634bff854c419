-- `crc::lfs_crc` meets its contract: a byte moves from what is left into the register. Assumes nothing.
use Rattle.std.proofs.Common.{◌≡◌, sym, ap, ◌∙◌, List, ℕ, ◌<◌, ◌+◌, length, get_or, drop}
use Rattle.std.proofs.Math.Numerals.{add-one}
use Rattle.std.proofs.Math.ListN.{drop_of_length-le}
use Rattle.std.proofs.Math.Seq.{drop-cons}
use Rattle.format.specs.Crc.{crc_byte, crc}
use Rattle.crc.proofs.lfs_crc.Goals as goal

-- one byte less is left
turn : (l : List ℕ) (i s : ℕ) → i < length l → crc (crc_byte s (get_or l i 0)) (drop (i + 1) l) ≡ crc s (drop i l)
unfolding crc
turn l i s h = rw (add-one, drop-cons l i 0)

pub loop-byte-preserved : goal.loop-byte-preserved
loop-byte-preserved c =
    let t = turn c.args.buffer.now c.loop-byte.byte-index c.loop-byte.s c.loop-byte-test.true in
    cc

pub returns : goal.returns
unfolding crc
returns c = sym (ap (crc _) (drop_of_length-le _ c.loop-byte-test.false)) ∙ c.loop-byte.invariant
