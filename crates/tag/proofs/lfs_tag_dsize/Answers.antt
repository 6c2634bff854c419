-- `tag::lfs_tag_dsize` meets its contract: whether the size is a removal's decides the definition's case. Assumes
-- nothing.
use mathlib.Core.Path.{◌≡◌, sym, ◌∙◌}
use Prim.Native.Nat.{ℕ, ◌+◌}
use borrow.Author.Tests.{eq-eqb, ne_eqb}
use Rattle.format.specs.Tag.{tag_size, tag_length, removal_size}
use Rattle.tag.proofs.lfs_tag_dsize.Goals as goal

removal : (tag size : ℕ) → size ≡ tag_size tag → size ≡ removal_size → 4 ≡ tag_length tag
unfolding tag_length
removal tag size e h = rw (eq-eqb (tag_size tag) removal_size (sym e ∙ h))

kept : (tag size : ℕ) → size ≡ tag_size tag → (size ≡ removal_size → ⊥) → 4 + size ≡ tag_length tag
unfolding tag_length
kept tag size e h = rw (ne_eqb (tag_size tag) removal_size (λ k. h (e ∙ k)), e)

pub returns-then-size-eq-REMOVAL : goal.returns-then-size-eq-REMOVAL
returns-then-size-eq-REMOVAL c = removal _ _ c.lfs_tag_size-size.ensures c.if-size-eq-REMOVAL.true

pub returns-else-size-eq-REMOVAL : goal.returns-else-size-eq-REMOVAL
returns-else-size-eq-REMOVAL c = kept _ _ c.lfs_tag_size-size.ensures c.if-size-eq-REMOVAL.false
