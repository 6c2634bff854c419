use Rattle.std.proofs.Common.{refl}
use Rattle.bits_shifts.proofs.Fields.{popc_is}
use Rattle.bits_shifts.proofs.lfs_popc.Goals as goal

pub returns : goal.returns
returns c = popc_is c.args.a _ c.ranges.a.fits refl
