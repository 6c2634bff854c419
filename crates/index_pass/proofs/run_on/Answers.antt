-- `index_pass::run_on` meets its contract. The loop keeps the entries that are left, run on the places that stand in
-- the table (`Going`). Assumes nothing.
use Rattle.std.proofs.Common.{length, refl, ap, ◌∙◌, arith}
use Rattle.format.proofs.Words.{tag_length_ge}
use Rattle.index_table.specs.Held.{Goes}
use Rattle.index_table.specs.declared.Places.{Places}
use Rattle.index_pass.proofs.Turn.{starts_going, ends_there, check_goes, entry_goes, entry_full}
use Rattle.index_pass.proofs.run_on.Goals as goal

pub loop-logged-init : goal.loop-logged-init
loop-logged-init c = (
  tt,
  tt,
  record { same = refl; long = refl },
  λ k. rw c.into_iter-logged-iterator.ensures.into_iter_gives (starts_going c.requires k c.behind-logged-items.ensures),
)

pub follow-requires : goal.follow-requires
follow-requires c =
    let v = c.loop-logged.invariant.3 c.requires.onwards in
    let m = rw c.in-Entry.is at (c.in-Some.ensures.steps v.on) in
    let inside = rw v.block at m.stands.1 in
    (m.stands.2, omega (arith, inside, tag_length_ge c.in-Entry.tag, c.requires.small))

pub returns-in-Err : goal.returns-in-Err
unfolding Goes
returns-in-Err c = record {
  stays = record {
    same = c.clear.ensures.stays.same ∙ ap (λ (y : Places). y.table.ghost_name) c.in-Err.ensures.1.same ∙ c.loop-logged.invariant.2.same;
    long = c.clear.ensures.stays.long ∙ ap (λ (y : Places). length y.table.now) c.in-Err.ensures.1.same ∙ c.loop-logged.invariant.2.long;
  };
  ran = λ k.
      let v = c.loop-logged.invariant.3 k in
      entry_full v (rw c.in-Entry.is at (c.in-Some.ensures.steps v.on)) c.in-Err.ensures c.clear.ensures;
}

pub loop-logged-preserved-in_default-follow : goal.loop-logged-preserved-in_default-follow
unfolding Goes
loop-logged-preserved-in_default-follow c = (
  tt,
  tt,
  record {
    same = c.in_default-follow.ensures.stays.same ∙ c.loop-logged.invariant.2.same;
    long = c.in_default-follow.ensures.stays.long ∙ c.loop-logged.invariant.2.long;
  },
  λ k.
      let v = c.loop-logged.invariant.3 k in
      entry_goes v (rw c.in-Entry.is at (c.in-Some.ensures.steps v.on)) c.in_default-follow.ensures,
)

pub loop-logged-preserved : goal.loop-logged-preserved
loop-logged-preserved c = (
  tt,
  tt,
  c.loop-logged.invariant.2,
  λ k.
      let v = c.loop-logged.invariant.3 k in
      check_goes v _ c.in_default.not-Entry (c.in-Some.ensures.steps v.on),
)

pub returns : goal.returns
returns c = record {
  stays = c.loop-logged.invariant.2;
  ran = λ k.
      let v = c.loop-logged.invariant.3 k in
      rw c.used.ensures (ends_there v (c.in-None.ensures.steps v.on));
}
