-- `word::lfs_put_be32` meets its contract: the test of the offset decides both definitions' case. Assumes nothing.
use mathlib.Core.Path.{◌∙◌}
use Rattle.word.proofs.Inside.{is_inside, first, second}
use Rattle.word.proofs.lfs_put_be32.Goals as goal

pub put_be32-requires : goal.put_be32-requires
put_be32-requires c = is_inside c.args.s.now _ _
    c.has_word.ensures c.if-has_word.true

pub returns-then-has_word : goal.returns-then-has_word
returns-then-has_word c =
    let test = c.has_word.ensures in
    let taken = c.if-has_word.true in record { value = first _ _ _ _ test taken; s_after = c.put_be32.ensures ∙ first _ _ _ _ test taken }

pub returns-else-has_word : goal.returns-else-has_word
returns-else-has_word c = record { value = second _ _ _ _ c.has_word.ensures c.if-has_word.false; s_after = second _ _ _ _ c.has_word.ensures c.if-has_word.false }
