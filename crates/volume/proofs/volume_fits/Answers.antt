-- `volume::volume_fits` meets its contract: a geometry that fits has a block size that divides. Assumes nothing.
use native.Mathlib.Omega.{arith}
use Rattle.volume.proofs.Blocks.{unfit, fit, whole}
use Rattle.std.proofs.Common.{ap, not}
use Rattle.volume.proofs.volume_fits.Goals as goal

pub returns-then-not-geometry_fits : goal.returns-then-not-geometry_fits
returns-then-not-geometry_fits c = unfit _ _ _ c.geometry_fits.ensures (ap not c.if-not-geometry_fits.true)

pub nonzero_rem-result : goal.nonzero_rem-result
nonzero_rem-result c = omega (
  arith,
  (fit _ c.args.vol.now _ c.geometry_fits.ensures
      (ap not c.if-not-geometry_fits.false)).block_low,
)

pub returns : goal.returns
returns c = whole _ _ _ c.geometry_fits.ensures (ap not c.if-not-geometry_fits.false)
