-- The checksum of an erased unit, byte by byte, and the forward check by its test. Assumes nothing.
use mathlib.Core.Path.{◌≡◌}
use mathlib.Core.Bool.{true}
use Prim.Native.Nat.{ℕ, suc, ◌+◌, ◌-◌, ◌≤◌, ◌<◌}
use native.Mathlib.Omega.{arith}
use borrow.Author.Tests.{le-leb, lt-leb}
use Rattle.format.specs.Word.{all_ones}
use Rattle.format.specs.Crc.{crc_byte, crc}
use Rattle.format.specs.Record.{no_forward}
use Rattle.format.specs.Erased.{erased}
use Rattle.format.specs.Writer.{rounded_end, forward_length, carries, carried_for}

-- ---- `unit_sum`: i bytes are summed
module _ (e prog i sum : ℕ) where
  pub unit_on : i < prog → crc sum (erased e (prog - i)) ≡ crc (crc_byte sum e) (erased e (prog - (i + 1)))
  unfolding crc
  unit_on h = let q : prog - i ≡ suc (prog - (i + 1)) = omega arith in rw q

  pub unit_end : prog ≤ i → crc sum (erased e (prog - i)) ≡ sum
  unfolding crc
  unit_end h = let q : prog - i ≡ 0 = omega arith in rw q

-- ---- `forward`: r is what `rounded_end` answers, s what `unit_sum` does
module _ (e prog block at r : ℕ) (er : r ≡ rounded_end prog (at + forward_length)) where
  pub forward_none : block < r + prog → no_forward ≡ carried_for e prog block at
  unfolding carried_for carries
  forward_none h = rw (← er, lt-leb (r + prog) block h)

  pub forward_made : (s : ℕ) → r + prog ≤ block → s ≡ crc all_ones (erased e prog)
      → record { seen = true; size = prog; sum = s } ≡ carried_for e prog block at
  unfolding carried_for carries
  forward_made s h es = rw (← er, le-leb (r + prog) block h, es)
