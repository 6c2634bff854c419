-- `lookup::info::read` meets its contract: the name's lookup, into the front of a blank buffer (`Infos.antt`). Assumes
-- nothing.
use Rattle.std.proofs.Common.{◌≡◌, ◌∙◌, Err, rules, sym}
use Prim.Native.Nat.{◌+◌}
use native.Mathlib.Omega.{arith}
use lib.Seq.{length-take-le}
use Rattle.format.specs.Lookup.{blank_buffer}
use Rattle.lookup.proofs.Infos.{info_refused_lem, info_found}
use Rattle.lookup.proofs.info.read.Goals as goal

pub slice_bounds-read-end : goal.slice_bounds-read-end
slice_bounds-read-end c = sym (length-take-le (c.args.name_max + 1) (blank_buffer 256)
    (omega arith))

pub returns-in_err-found : goal.returns-in_err-found
returns-in_err-found c = let a = c.args in
    let e : c.from_residual.result ≡ Err c.in_err-found.field-0.0 = search rules in
    e ∙ info_refused_lem a.b.now a.dir a.gdisk a.name_max a.id (omega arith) (omega arith) _ _
    c.lfs_mktag-gmask.ensures
    c.lfs_mktag-gtag.ensures _
    c.read.ensures.value _ c.in_err-found.was

pub returns : goal.returns
returns c = let a = c.args in
    info_found a.b.now a.dir a.gdisk a.name_max a.id (omega arith) (omega arith) _ _
    c.lfs_mktag-gmask.ensures
    c.lfs_mktag-gtag.ensures _
    c.read.ensures.value _ c.in_ok-found.was _
    c.read.ensures.buffer_after _ c.named.ensures
