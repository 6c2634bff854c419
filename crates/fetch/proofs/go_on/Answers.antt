-- `fetch::go_on` meets its contract: what is read off the walk that goes on from the record. Assumes nothing.
use Rattle.fetch.proofs.Again.{known_readable, known_answers}
use Rattle.fetch.proofs.go_on.Goals as goal

pub answer-requires : goal.answer-requires
answer-requires c = known_readable _ _ _ _ _ _ c.requires c.known.ensures
    c.walk_again-w.ensures

pub returns : goal.returns
returns c = known_answers _ _ _ _ _ _ _ c.known.ensures c.walk_again-w.ensures
    c.answer.ensures
