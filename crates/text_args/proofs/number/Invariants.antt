-- The number so far, and the digits that are left. Assumes nothing.
use Rattle.std.proofs.Common.{◌≡◌, ◌^◌, ◌<◌, drop}
use Rattle.text_args.specs.Number.{number_from, number_of}
use Rattle.text_args.proofs.number.Given as goal

abbrev pub invariant-loop-digit : goal.invariant-loop-digit
invariant-loop-digit l = (number_of l.text ≡ number_from l.value (drop l.digit-index l.text)) × (l.value < 2 ^ 32)
