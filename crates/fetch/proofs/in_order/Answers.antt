-- `fetch::in_order` meets its contract: the first block with a commit, or none. Assumes nothing.
use Rattle.fetch.proofs.Answers.{walked_first, walked_second, first_answers, second_answers, none_answers}
use Rattle.fetch.proofs.in_order.Goals as goal

pub answer-requires : goal.answer-requires
answer-requires c = walked_first _ _ _ c.requires _ _
    c.walk_block-first.ensures

pub returns-then-first-ne-LOG_START : goal.returns-then-first-ne-LOG_START
returns-then-first-ne-LOG_START c = first_answers _ _ _ _ _ _ _ c.walk_block-first.ensures _ _
    c.if-first-ne-LOG_START.true c.le32.ensures c.answer.ensures

pub answer-requires-then-second-ne-LOG_START : goal.answer-requires-then-second-ne-LOG_START
answer-requires-then-second-ne-LOG_START c = walked_second _ _ _ c.requires
    _ _ c.walk_block-second.ensures

pub returns-then-second-ne-LOG_START : goal.returns-then-second-ne-LOG_START
returns-then-second-ne-LOG_START c = second_answers _ _ _ _ _ _ _ c.walk_block-first.ensures
    c.if-first-ne-LOG_START.false _ c.walk_block-second.ensures _
    _
    c.if-second-ne-LOG_START.true c.le32-then-second-ne-LOG_START.ensures c.answer-then-second-ne-LOG_START.ensures

pub returns : goal.returns
returns c = none_answers _ _ _ _ _ _ _ c.walk_block-first.ensures
    c.if-first-ne-LOG_START.false _ c.walk_block-second.ensures c.if-second-ne-LOG_START.false
