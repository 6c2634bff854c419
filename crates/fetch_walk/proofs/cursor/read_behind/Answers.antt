-- `fetch_walk::cursor::read_behind` meets its contract, by the definition's cases. Assumes nothing.
use mathlib.Core.Path.{◌≡◌, sym, ap₂, ◌∙◌}
use mathlib.Core.Bool.{Bool, ◌||◌}
use Prim.Native.Nat.{ℕ}
use native.Mathlib.Omega.{arith}
use lib.Dec.{eqb}
use Rattle.format.specs.Tag.{tag_type1, tag_type3}
use Rattle.format.specs.Kind.{is_wide}
use Rattle.format.proofs.Classes.{behind_check, behind_wide, behind_plain}
use Rattle.fetch_walk.proofs.cursor.read_behind.Goals as goal

-- the test for eight bytes, as the definition has it
wide : (t x y : ℕ) {q : Bool} → x ≡ tag_type1 t → y ≡ tag_type3 t → eqb x 0x600 || eqb y 0x5ff ≡ q → is_wide t ≡ q
wide t x y ex ey e = sym (ap₂ (λ (a b : ℕ). eqb a 0x600 || eqb b 0x5ff) ex ey) ∙ e

pub returns-then-is_check : goal.returns-then-is_check
returns-then-is_check c = (sym (behind_check _ (sym c.is_check.ensures ∙ c.if-is_check.true)), omega arith)

pub returns-then-wide : goal.returns-then-wide
returns-then-wide c = (
  sym (behind_wide _ (sym c.is_check.ensures
      ∙ c.if-is_check.false) (wide _ _ _ c.lfs_tag_type1.ensures
      c.lfs_tag_type3.ensures c.if-wide.true)),
  omega arith,
)

pub returns-else-wide : goal.returns-else-wide
returns-else-wide c = (
  sym (behind_plain _ (sym c.is_check.ensures
      ∙ c.if-is_check.false) (wide _ _ _ c.lfs_tag_type1.ensures
      c.lfs_tag_type3.ensures c.if-wide.false)),
  omega arith,
)
