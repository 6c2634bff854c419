-- `index_table::Places::remove` meets its contract. Assumes nothing.
use Rattle.std.proofs.Common.{refl, rules}
use Rattle.index_table.proofs.Altered.{removed}
use Rattle.index_table.proofs.Places.remove.Goals as goal

pub returns : goal.returns
returns c = record {
  stays = record { same = refl; long = search rules };
  has = λ P h. removed h _ _ _ _ _ c.rank_at.ensures c.rank_at-2.ensures c.find-first.ensures c.find-last.ensures
      c.close.ensures c.shift_ids.ensures;
}
