-- `index_table::Places::unset` meets its contract. Assumes nothing.
use Rattle.std.proofs.Common.{refl, rules}
use Rattle.index_table.proofs.Altered.{unset_there}
use Rattle.index_table.proofs.Places.unset.Goals as goal

pub returns-then-is_at : goal.returns-then-is_at
returns-then-is_at c = record {
  stays = record { same = refl; long = search rules };
  has = λ P h. unset_there h _ _ c.find-place.ensures _ c.is_at.ensures c.if-is_at.true c.close.ensures;
}
