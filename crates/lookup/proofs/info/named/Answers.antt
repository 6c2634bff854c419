-- `lookup::info::named` meets its contract: the struct's lookup (`Infos.antt`). Assumes nothing.
use Rattle.std.proofs.Common.{◌≡◌, ◌∙◌, Err, rules}
use Rattle.lookup.proofs.Infos.{named_refused, named_found_lem}
use Rattle.lookup.proofs.info.named.Goals as goal

pub returns-in_err-found : goal.returns-in_err-found
returns-in_err-found c = let a = c.args in
    let e : c.from_residual.result ≡ Err c.in_err-found.field-0.0 = search rules in
    e ∙ named_refused a.b.now a.dir a.gdisk a.id a.t a.name
    c.requires.1 _ _
    c.lfs_mktag-gmask.ensures
    c.lfs_mktag-gtag.ensures _
    c.read.ensures.value _ c.in_err-found.was

pub returns : goal.returns
returns c = let a = c.args in named_found_lem a.b.now a.dir a.gdisk a.id a.t a.name
    c.requires.1 _ _
    c.lfs_mktag-gmask.ensures
    c.lfs_mktag-gtag.ensures _
    c.read.ensures.value _
    c.in_ok-found.was _
    c.read.ensures.buffer_after _ _ c.size_of.ensures
    c.lfs_tag_type3.ensures
