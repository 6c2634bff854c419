-- `Volume::fetch` meets its contract: its tests are the definition's, in that order. Assumes nothing.
use native.Mathlib.Omega.{arith}
use Rattle.volume.proofs.Blocks.{volume_sized, same_numbers, first_outside, second_outside, both_inside}
use Rattle.volume.proofs.Volume.fetch.Goals as goal

pub returns-then-n0-n1 : goal.returns-then-n0-n1
returns-then-n0-n1 c = same_numbers _ _ _ c.if-n0-n1.true

pub nonzero_div-blocks : goal.nonzero_div-blocks
nonzero_div-blocks c = omega (arith, (volume_sized _ _ c.args.self.fits).block_low)

pub returns-then-blocks-n0 : goal.returns-then-blocks-n0
returns-then-blocks-n0 c = first_outside _ _ _ c.if-n0-n1.false c.if-blocks-n0.true

pub returns-then-blocks-n1 : goal.returns-then-blocks-n1
returns-then-blocks-n1 c = second_outside _ _ _ c.if-n0-n1.false c.if-blocks-n0.false c.if-blocks-n1.true

pub returns : goal.returns
returns c = both_inside _ _ _ c.if-n0-n1.false
    c.if-blocks-n0.false c.if-blocks-n1.false _ _
    c.block-b0.ensures c.block-b1.ensures _ c.lfs_dir_fetch.ensures
