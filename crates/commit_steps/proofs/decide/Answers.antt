-- `commit_steps::decide` meets its contract: what `place` asks holds where the sizes fit, and they have been tested.
-- Assumes nothing.
use Rattle.std.proofs.Common.{sym, ◌∙◌}
use Rattle.sizes.proofs.Sized.{images_sized}
use Rattle.commit_steps.proofs.Bounds.{block_bound}
use Rattle.commit_steps.proofs.decide.Goals as goal

pub place-requires : goal.place-requires
place-requires c =
    let p = c.args.pair in
    let fits = sym c.images_fit.ensures ∙ c.if-images_fit.true in
    let s = images_sized _ _ _ fits in
    record {
      le_prog = s.geometry.prog_low;
      prog_bound = s.geometry.prog_high;
      b_len_bound = block_bound p.g p.b0.now p.b1.now p.n0 c.args.j.old.dir fits _ c.block_of.ensures;
    }
