-- `lookup::moved::xor_at` meets its contract: the slice's answer decides the definitions' case (`Moves.antt`). Assumes
-- nothing.
use Rattle.std.proofs.Common.{◌≡◌, ◌∙◌, Err, rules}
use Rattle.lookup.proofs.Moves.{move_refused, move_found}
use Rattle.lookup.proofs.moved.xor_at.Goals as goal

pub returns-in_err-read_at : goal.returns-in_err-read_at
returns-in_err-read_at c = let a = c.args in
    let e : c.from_residual.result ≡ Err c.in_err-read_at.field-0.0 = search rules in
    let m = move_refused a.b.now a.e a.gstate.now _ c.read_at.ensures.value _ c.in_err-read_at.was in
    (e ∙ m.0, m.1)

pub returns : goal.returns
returns c = let a = c.args in move_found
    a.b.now a.e a.gstate.now _
    c.read_at.ensures.value _
    c.in_ok-read_at.was _
    c.read_at.ensures.buffer_after _ _ c.gstate_in-found.ensures
    c.lfs_gstate_xor.ensures
