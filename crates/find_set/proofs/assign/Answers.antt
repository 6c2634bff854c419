-- `find_set::assign` meets its contract. Assumes nothing.
use native.Mathlib.Omega.{arith}
use Rattle.find_set.proofs.Replaced.{flag_few, replaced}
use borrow.Author.Rules.{rules}
use Rattle.find_set.proofs.assign.Goals as goal

pub open_word-requires : goal.open_word-requires
open_word-requires c =
    (search rules, omega arith, flag_few c.args.is)

pub returns : goal.returns
returns c =
    replaced _ _ _ _ _ (omega arith) (omega arith) (omega arith) _ _
    c.close_word.ensures c.open_word.ensures
