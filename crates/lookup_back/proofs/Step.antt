-- The walk back by the code's step: it is over, or it has met one tag and goes on before it. Assumes nothing.
use mathlib.Core.Path.{◌≡◌, ◌∙◌}
use mathlib.Core.List.{List, [], ◌∷◌}
use Prim.Native.Nat.{ℕ, ◌+◌, ◌%◌, ◌≤◌, ◌<◌}
use native.Mathlib.Omega.{arith}
use lib.Bits.{bit_xor}
use lib.ListN.{drop}
use Rattle.format.specs.Word.{be32, xor}
use Rattle.format.specs.Tag.{tag_length}
use Rattle.format.specs.Back.{back}
use Rattle.format.proofs.Back.{back_none, back_more}
use Rattle.format.proofs.Words.{tag_length_ge}
use Rattle.lookup_back.specs.Step.{Ends, Placed, tag_before}
use Rattle.std.specs.Prelude.{None, Option, Some}

-- the code's XOR; w is the word that stands there
pub before_is : (b : List ℕ) (at t w : ℕ) → w ≡ be32 (drop at b) → bit_xor w t % 0x8000_0000 ≡ tag_before b at t
unfolding xor tag_before
before_is b at t w e = rw e

module _ (b : List ℕ) (off t : ℕ) where
  pub back_over : off < 4 + tag_length t → back b off t ≡ []
  back_over = back_none b off t

  module _ (at : ℕ) (e : Ends off t at) where
    pub back_on : back b off t ≡ record { tag = t; off = at } ∷ back b at (tag_before b at t)
    unfolding tag_before
    back_on = back_more b off t e.more ∙ rw e.is

-- the tag's place: not at the block's start, and its word before the tag's end
module _ (off t at : ℕ) (e : Ends off t at) where
  pub back_first : 0 < at
  back_first = omega (arith, e.more, e.is)

  pub back_word : at + 4 ≤ off
  back_word = omega (arith, e.more, e.is, tag_length_ge t)

-- what `place` answers, p, by its variant
pub placed_at_lem : (off t at : ℕ) (p : Option ℕ) → Placed off t p → p ≡ Some at → Ends off t at
placed_at_lem off t at p h e = rw e at h

pub placed_over : (off t : ℕ) (p : Option ℕ) → Placed off t p → p ≡ None → off < 4 + tag_length t
placed_over off t p h e = rw e at h
