-- `Volume::block` meets its contract: the block lies in the volume. Assumes nothing.
use Rattle.volume.proofs.Blocks.{block_is}
use Rattle.volume.proofs.Volume.block.Goals as goal

pub returns : goal.returns
returns c = block_is _ _ c.args.self.fits _
