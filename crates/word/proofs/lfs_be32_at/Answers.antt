-- `word::lfs_be32_at` meets its contract: the test of the offset decides the definition's case. Assumes nothing.
use mathlib.Core.Path.{ap, ◌∙◌}
use Rattle.word.proofs.Inside.{is_inside, first, second}
use Rattle.word.proofs.lfs_be32_at.Goals as goal
use Rattle.std.specs.Prelude.{Ok}

pub be32-requires : goal.be32-requires
be32-requires c = is_inside c.args.s.now _ _ c.has_word.ensures
    c.if-has_word.true

pub returns-then-has_word : goal.returns-then-has_word
returns-then-has_word c = ap Ok c.be32.ensures ∙ first _ _ _ _ c.has_word.ensures c.if-has_word.true

pub returns-else-has_word : goal.returns-else-has_word
returns-else-has_word c = second _ _ _ _ c.has_word.ensures c.if-has_word.false
