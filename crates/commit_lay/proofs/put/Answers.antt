-- `commit_lay::put` meets its contract: no store is left, no room is left, or one is made. Assumes nothing.
use Rattle.commit_lay.proofs.Puts.{put_none, put_past, put_one}
use Rattle.commit_lay.proofs.put.Goals as goal

pub returns-then-left-eq0 : goal.returns-then-left-eq0
returns-then-left-eq0 c = put_none c.args.run c.args.b.now c.args.x c.if-left-eq0.true

pub returns-then-b-at : goal.returns-then-b-at
returns-then-b-at c = put_past c.args.run c.args.b.now c.args.x
    c.if-left-eq0.false c.if-b-at.true

pub returns : goal.returns
returns c = put_one c.args.run c.args.b.now c.args.x
    c.if-left-eq0.false c.if-b-at.false
