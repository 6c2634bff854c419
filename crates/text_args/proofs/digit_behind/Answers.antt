-- No digit, a number that is too great, or the number. Assumes nothing.
use Rattle.text_args.proofs.Digits.{not_digit, too_great, one_more}
use Rattle.text_args.proofs.digit_behind.Goals as goal

pub returns-then-not-is_ascii_digit : goal.returns-then-not-is_ascii_digit
returns-then-not-is_ascii_digit c = not_digit _ _ c.if-not-is_ascii_digit.ensures.cases

pub returns-in_err-checked_mul : goal.returns-in_err-checked_mul
returns-in_err-checked_mul c =
    let d = c.if-not-is_ascii_digit.ensures.cases in
    rw c.from_residual.ensures (too_great _ _ d.0 d.1 c.in_err-checked_mul.ensures)

pub returns : goal.returns
returns c =
    let d = c.if-not-is_ascii_digit.ensures.cases in
    one_more _ _ d.0 d.1 _ c.in_ok-checked_mul.ensures.1 _ c.checked_add.ensures
