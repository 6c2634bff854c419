-- Which block is tried first, by comparisons of words: a difference is above 0, read as signed, where it is neither 0
-- nor has its top bit. Assumes nothing.
use mathlib.Core.Path.{◌≡◌, refl, sym}
use mathlib.Core.Bool.{Bool, true, false, ◌&&◌}
use Prim.Native.Nat.{ℕ, ◌^◌, ◌<◌}
use native.Mathlib.Omega.{arith}
use lib.Dec.{ltb}
use lib.IntN.{pos}
use lib.Signed.{lt_z}
use mir.Syntax.{w32}
use mir.Val.{to_z}
use borrow.Author.Tests.{lt-ltb, le-ltb}
use Rattle.format.specs.Word.{plus32, minus32}
use Rattle.format.specs.Count.{second_first}

with_true : (b : Bool) → b ≡ b && true
with_true true = refl
with_true false = refl

with_false : (b : Bool) → false ≡ b && false
with_false true = refl
with_false false = refl

-- of any word
above_zero : (d : ℕ) → lt_z (pos 0) (to_z w32 d) ≡ ltb 0 d && ltb d (2 ^ 31)
above_zero d = go (ltb d (2 ^ 31)) refl
  where
    go : (b : Bool) → ltb d (2 ^ 31) ≡ b → lt_z (pos 0) (to_z w32 d) ≡ ltb 0 d && b
    go true e = rw e (with_true (ltb 0 d))
    go false e = rw e (with_false (ltb 0 d))

pub second_first_lem : (rev0 rev1 : ℕ) → second_first rev0 rev1 ≡ ltb 0 (minus32 rev1 rev0)
    && ltb (minus32 rev1 rev0) (2 ^ 31)
second_first_lem rev0 rev1 = above_zero (minus32 rev1 rev0)

-- a revision plus one, wrapping, is tried first, on either side
pub next_first : (rev : ℕ) → rev < 2 ^ 32 → second_first rev (plus32 rev 1) ≡ true
next_first rev h =
    rw (
      second_first_lem rev (plus32 rev 1),
      lt-ltb 0 (minus32 (plus32 rev 1) rev) (omega arith),
      lt-ltb (minus32 (plus32 rev 1) rev) (2 ^ 31) (omega arith),
    )

pub next_stays : (rev : ℕ) → rev < 2 ^ 32 → second_first (plus32 rev 1) rev ≡ false
next_stays rev h =
    rw (second_first_lem (plus32 rev 1) rev, le-ltb (minus32 rev (plus32 rev 1)) (2 ^ 31) (omega arith))
    (sym (with_false (ltb 0 (minus32 rev (plus32 rev 1)))))
