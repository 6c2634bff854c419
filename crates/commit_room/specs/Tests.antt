-- What the tests of the room ask. Assumes nothing.
use Rattle.std.specs.Prelude.{ℕ, ◌^◌, ◌≤◌, ◌<◌}

-- a program size that is none of document 01's broken ones, and a place that two words of 32 bits add up to, or a
-- forward check behind it
pub record Prog (prog at : ℕ) : Type 0 where
  pub low : 4 ≤ prog
  pub high : prog ≤ 512
  pub near : at < 2 ^ 34
