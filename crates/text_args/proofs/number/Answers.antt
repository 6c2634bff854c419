-- A digit more, while the number is a word. Assumes nothing.
use Rattle.std.proofs.Common.{arith, sym, ◌∙◌, rules}
use Rattle.text_args.proofs.Digits.{number_none, number_some, number_on, number_done, more_fits}
use Rattle.text_args.proofs.number.Goals as goal

pub returns-then-is_empty : goal.returns-then-is_empty
returns-then-is_empty c = number_none _ (search rules)

pub loop-digit-init : goal.loop-digit-init
loop-digit-init c = (number_some _ (search rules), omega arith)

pub returns-in_err-value : goal.returns-in_err-value
returns-in_err-value c = rw c.from_residual.ensures (sym (number_on _ _ _ c.loop-digit.invariant.0 _
    c.loop-digit-test.true (sym c.in_err-value.was ∙ c.digit_behind.ensures)))

pub loop-digit-preserved : goal.loop-digit-preserved
loop-digit-preserved c =
    let more = sym c.in_ok-value.was ∙ c.digit_behind.ensures in
    (number_on _ _ _ c.loop-digit.invariant.0 _ c.loop-digit-test.true more, more_fits _ _ _ more)

pub returns : goal.returns
returns c = number_done _ _ _ c.loop-digit.invariant.0 c.loop-digit-test.false c.loop-digit.invariant.1
