-- `fetch::erased` meets its contract, by the tests in order. Assumes nothing.
use native.Mathlib.Omega.{arith}
use borrow.Author.Tests.{not-true, not-false}
use Rattle.fetch.proofs.FromWalk.{not_straight, not_multiple, not_seen, no_room, with_room}
use Rattle.fetch.proofs.erased.Goals as goal

pub returns-then-not-w : goal.returns-then-not-w
returns-then-not-w c = not_straight _ _ _ (not-true _ c.if-not-w.true)

pub returns-then-off-prog-ne0 : goal.returns-then-off-prog-ne0
returns-then-off-prog-ne0 c = not_multiple _ _ _ (not-false _ c.if-not-w.false) c.if-off-prog-ne0.true

pub returns-then-not-fcrc : goal.returns-then-not-fcrc
returns-then-not-fcrc c = not_seen _ _ _ (not-false _ c.if-not-w.false) c.if-off-prog-ne0.false
    (not-true _ c.if-not-fcrc.true)

pub returns-then-b-off : goal.returns-then-b-off
returns-then-b-off c = no_room _ _ _ (not-false _ c.if-not-w.false)
    c.if-off-prog-ne0.false (not-false _ c.if-not-fcrc.false) (omega arith)

pub returns : goal.returns
returns c = with_room _ _ _
    (not-false _ c.if-not-w.false)
    c.if-off-prog-ne0.false
    (not-false _ c.if-not-fcrc.false) _ (omega arith) c.lfs_crc.ensures
