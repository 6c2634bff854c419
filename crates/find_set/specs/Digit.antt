-- A number with one digit more or one less at a place: what was above it moves. Assumes nothing.
use Rattle.std.specs.Prelude.{ℕ, ◌+◌, ◌*◌, ◌/◌, ◌%◌, ◌^◌}

-- the digit c stands at place k
unfoldable pub opened : ℕ → ℕ → ℕ → ℕ
opened k c w = (w / 2 ^ k * 2 + c) * 2 ^ k + w % 2 ^ k

-- the digit at place k is out
unfoldable pub closed : ℕ → ℕ → ℕ
closed k w = w / 2 ^ k / 2 * 2 ^ k + w % 2 ^ k
