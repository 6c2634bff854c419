-- Document 01, Fetch: which block is tried first, and how the count moves. Assumes nothing.
use Rattle.std.specs.Prelude.{Bool, ℕ, suc, ◌+◌, ◌-◌, ◌%◌, max, ℤ, pos, negsuc}
use Rattle.std.specs.Int.Signed.{lt_z}
use Rattle.format.specs.Word.{minus32, signed32}

-- `lfs_scmp`: a - b, wrapping and read as signed
abbrev pub scmp : ℕ → ℕ → ℤ
scmp a b = signed32 (minus32 a b)

-- "The second block ranks first only if its revision minus the first's, wrapping and read as signed, is above 0."
abbrev pub second_first : ℕ → ℕ → Bool
second_first rev0 rev1 = lt_z (pos 0) (scmp rev1 rev0)

-- "Name: count becomes at least id + 1."
abbrev pub count_named : ℕ → ℕ → ℕ
count_named count id = max count (id + 1)

-- "Splice (type1 0x400): count plus splice, raised to 0 if below, then modulo 65,536." (`negsuc n` is -(n + 1), and `-`
-- stops at 0.)
abbrev pub count_spliced : ℕ → ℤ → ℕ
count_spliced count (pos n) = (count + n) % 65_536
count_spliced count (negsuc n) = (count - suc n) % 65_536
