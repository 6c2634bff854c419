-- A splice as an unsigned number. Assumes nothing.
use Rattle.std.specs.Prelude.{ℕ, ◌+◌, ◌-◌, ℤ, pos, negsuc}

-- how far it lies above -128 (`negsuc n` is -(n + 1))
abbrev pub from_lowest : ℤ → ℕ
from_lowest (pos n) = n + 128
from_lowest (negsuc n) = 127 - n
