-- By the tests in order. Assumes nothing.
use Rattle.text_log.proofs.StopShown.{stop_ends, stop_invalid, check_reach, stop_check, stop_past}
use Rattle.text_log.proofs.stop.stop_text.Goals as goal

pub returns-then-left-lt4 : goal.returns-then-left-lt4
returns-then-left-lt4 c = rw (← stop_ends c.args.b.now c.args.c c.requires c.if-left-lt4.true) c.stop_line.ensures

pub returns-then-tag-ge2147483648 : goal.returns-then-tag-ge2147483648
returns-then-tag-ge2147483648 c =
    rw (← stop_invalid c.args.b.now c.args.c c.requires c.if-left-lt4.false _ c.be32.ensures c.if-tag-ge2147483648.true)
    c.invalid_stop.ensures

pub check_stop-requires : goal.check_stop-requires
check_stop-requires c = check_reach _ c.args.c c.requires c.if-left-lt4.false _ c.be32.ensures
    c.if-tag-ge2147483648.false _ c.check_whole.ensures c.if-check_whole.true

pub returns-then-check_whole : goal.returns-then-check_whole
returns-then-check_whole c =
    rw (← stop_check c.args.b.now c.args.c c.requires c.if-left-lt4.false _ c.be32.ensures c.if-tag-ge2147483648.false _
    c.check_whole.ensures c.if-check_whole.true) c.check_stop.ensures

pub returns : goal.returns
returns c =
    rw (← stop_past c.args.b.now c.args.c c.requires c.if-left-lt4.false _ c.be32.ensures c.if-tag-ge2147483648.false _
    c.check_whole.ensures c.if-check_whole.false) c.past_stop.ensures
