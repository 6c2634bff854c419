use Rattle.std.proofs.Common.{sym, ◌∙◌, eq-eqb}
use Rattle.bits_shifts.proofs.agree.Goals as goal

pub returns : goal.returns
returns c =
    let popc = c.lfs_popc in
    let ctz2 = c.lfs_ctz-2 in
    let ctz = c.lfs_ctz in
    let npw22 = c.lfs_npw2-2 in
    let npw2 = c.lfs_npw2 in
    rw (
      eq-eqb npw2.result npw22.result (npw2.ensures ∙ sym npw22.ensures),
      eq-eqb ctz.result ctz2.result (ctz.ensures ∙ sym ctz2.ensures),
      eq-eqb popc.result c.lfs_popc-2.result (popc.ensures ∙ sym c.lfs_popc-2.ensures),
    )
