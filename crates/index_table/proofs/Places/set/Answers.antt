-- `index_table::Places::set` meets its contract. Assumes nothing.
use Rattle.std.proofs.Common.{refl, arith, rules}
use Rattle.index_table.specs.Held.{Goes}
use Rattle.index_table.proofs.Altered.{set_there, set_full, set_new}
use Rattle.index_table.proofs.Places.set.Goals as goal

pub returns-then-is_at : goal.returns-then-is_at
unfolding Goes
returns-then-is_at c = record {
  stays = record { same = refl; long = search rules };
  has = λ P h. set_there h _ _ c.find-place.ensures _ c.is_at.ensures c.if-is_at.true _ _ c.put.ensures;
}

pub returns-then-self-end-lt2 : goal.returns-then-self-end-lt2
unfolding Goes
returns-then-self-end-lt2 c = (
  refl,
  record {
    same = refl;
    short = λ P h. set_full h _ _ c.find-place.ensures _ c.is_at.ensures c.if-is_at.false _ _ c.if-self-end-lt2.true;
  },
)

pub returns : goal.returns
unfolding Goes
returns c = record {
  stays = record { same = refl; long = search rules };
  has = λ P h. set_new h _ _ c.find-place.ensures _ c.is_at.ensures c.if-is_at.false _ _ (omega arith)
      c.«open».ensures;
}
