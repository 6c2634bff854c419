-- `crc::rtable` meets its contract: RTABLE is tied to the bitwise definition by one test that is computed over its
-- sixteen words. Assumes nothing.
use mathlib.Core.Path.{◌≡◌, refl}
use mathlib.Core.Bool.{Bool}
use mathlib.Core.List.{List}
use Prim.Native.Nat.{ℕ}
use native.Mathlib.Omega.{arith}
use lib.Dec.{T, eqb, eqb→eq}
use lib.ListN.{length, get_or}
use Rattle.format.specs.Crc.{crc_bit, crc_bits}
use Rattle.format.proofs.Table.{every, at}
use Rattle.crc.specs.Rtable.{Rtable}
use Rattle.crc.proofs.rtable.Goals as goal

-- the test of one word x, at place k
right : ℕ → ℕ → Bool
right k x = eqb x (crc_bits 4 k)

tied : {l : List ℕ} → T (every right 0 l) → length l ≡ 16 → Rtable l
unfolding right
tied {l} t e = record { word = λ k h. eqb→eq (get_or l k 0) (crc_bits 4 k) (at right l t k (omega arith)) }

pub returns : goal.returns
unfolding right crc_bits crc_bit
returns c = tied tt refl
