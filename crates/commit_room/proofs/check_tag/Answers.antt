-- `commit_room::check_tag` meets its contract: the size is what is between the tag and the rounded end, by which
-- erased byte it is. Assumes nothing.
use native.Mathlib.Omega.{arith}
use Rattle.commit_room.proofs.Ends.{end_behind, tag_flips, tag_plain}
use Rattle.commit_room.proofs.check_tag.Goals as goal

pub rounded_end-requires : goal.rounded_end-requires
rounded_end-requires c = c.requires

pub overflow_sub-size : goal.overflow_sub-size
overflow_sub-size c = omega (arith, (end_behind c.args.prog c.args.at c.requires).0)

pub overflow_cast-result : goal.overflow_cast-result
overflow_cast-result c =
    let a = c.args in omega (arith, (end_behind a.prog a.at c.requires).1)

pub overflow_add-result : goal.overflow_add-result
overflow_add-result c =
    let a = c.args in omega (arith, (end_behind a.prog a.at c.requires).1)

pub returns-then-erased-eq0 : goal.returns-then-erased-eq0
returns-then-erased-eq0 c =
    let a = c.args in
    tag_flips a.prog a.at c.requires a.erased _ c.rounded_end.ensures c.if-erased-eq0.true

pub overflow_cast-result-2 : goal.overflow_cast-result-2
overflow_cast-result-2 c =
    let a = c.args in omega (arith, (end_behind a.prog a.at c.requires).1)

pub overflow_add-result-2 : goal.overflow_add-result-2
overflow_add-result-2 c =
    let a = c.args in omega (arith, (end_behind a.prog a.at c.requires).1)

pub returns : goal.returns
returns c =
    let a = c.args in
    tag_plain a.prog a.at c.requires a.erased _ c.rounded_end.ensures c.if-erased-eq0.false
