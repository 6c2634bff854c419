-- Where a commit ends, as the code counts it. Assumes nothing.
use mathlib.Core.Path.{◌≡◌}
use Prim.Native.Nat.{ℕ, ◌+◌, ◌-◌, ◌%◌, ◌≤◌}
use native.Mathlib.Nat.{div-add-mod', mod-lt}
use native.Mathlib.Omega.{arith}
use borrow.Author.Tests.{eq-eqb, ne_eqb}
use Rattle.format.specs.Tag.{tag_of}
use Rattle.format.specs.Erased.{check_type}
use Rattle.format.specs.Commit.{check_tag}
use Rattle.format.specs.Writer.{check_length, rounded_end, check_size}
use Rattle.commit_room.specs.Tests.{Prog}

module _ (prog at : ℕ) (p : Prog prog at) where
  -- what is above the multiple is the remainder
  pub end_is : at + 8 + (prog - 1) - (at + 8 + (prog - 1)) % prog ≡ rounded_end prog at
  unfolding rounded_end
  end_is = omega (arith, div-add-mod' (at + 8 + (prog - 1)) prog)

  pub end_behind : (at + 8 ≤ rounded_end prog at) × (rounded_end prog at ≤ at + 8 + 512)
  unfolding rounded_end
  end_behind = (
    omega (
      arith,
      p.low,
      div-add-mod' (at + check_length + (prog - 1)) prog,
      mod-lt (at + check_length + (prog - 1)) {m =
          prog} (omega (arith, p.low)),
    ),
    omega (arith, p.high, div-add-mod' (at + check_length + (prog - 1)) prog),
  )

  -- r is what `rounded_end` answers
  module _ (e r : ℕ) (er : r ≡ rounded_end prog at) where
    pub tag_flips : e ≡ 0 → 0x501f_fc00 + (r - (at + 4)) ≡ check_tag e (check_size prog at)
    unfolding check_type tag_of check_size
    tag_flips h = rw (eq-eqb e 0 h) (omega arith)

    pub tag_plain : (e ≡ 0 → ⊥) → 0x500f_fc00 + (r - (at + 4)) ≡ check_tag e (check_size prog at)
    unfolding check_type tag_of check_size
    tag_plain h = rw (ne_eqb e 0 h) (omega arith)
