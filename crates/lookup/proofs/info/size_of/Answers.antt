-- `lookup::info::size_of` meets its contract: the struct's type decides the definition's case. Assumes nothing.
use mathlib.Core.Path.{◌≡◌, sym, ◌∙◌}
use mathlib.Core.List.{List}
use Prim.Native.Nat.{ℕ}
use lib.ListN.{drop}
use Rattle.format.specs.Word.{le32}
use Rattle.format.specs.Tag.{tag_type3, tag_size}
use Rattle.format.specs.Lookup.{info_size}
use borrow.Author.Tests.{eq-eqb, ne_eqb}
use Rattle.lookup.proofs.info.size_of.Goals as goal

-- k is the type
module _ (t k : ℕ) (d : List ℕ) (e : k ≡ tag_type3 t) where
  ctz : k ≡ 0x202 → le32 (drop 4 d) ≡ info_size t d
  ctz h = sym (rw (eq-eqb (tag_type3 t) 0x202 (sym e ∙ h)))

  inline : (k ≡ 0x202 → ⊥) → k ≡ 0x201 → tag_size t ≡ info_size t d
  inline n h = sym (rw (ne_eqb (tag_type3 t) 0x202 (λ q. n (e ∙ q)), eq-eqb (tag_type3 t) 0x201 (sym e ∙ h)))

  neither : (k ≡ 0x202 → ⊥) → (k ≡ 0x201 → ⊥) → 0 ≡ info_size t d
  neither n m = sym (rw (ne_eqb (tag_type3 t) 0x202 (λ q. n (e ∙ q)), ne_eqb (tag_type3 t) 0x201 (λ q. m (e ∙ q))))

pub returns-then-kind-eq-LFS_TYPE_CTZSTRUCT : goal.returns-then-kind-eq-LFS_TYPE_CTZSTRUCT
returns-then-kind-eq-LFS_TYPE_CTZSTRUCT c = c.le32.ensures ∙ ctz _ _ c.args.s.now
    c.lfs_tag_type3-kind.ensures c.if-kind-eq-LFS_TYPE_CTZSTRUCT.true

pub returns-then-kind-eq-LFS_TYPE_INLINESTRUCT : goal.returns-then-kind-eq-LFS_TYPE_INLINESTRUCT
returns-then-kind-eq-LFS_TYPE_INLINESTRUCT c = c.lfs_tag_size.ensures ∙ inline _ _ c.args.s.now
    c.lfs_tag_type3-kind.ensures c.if-kind-eq-LFS_TYPE_CTZSTRUCT.false c.if-kind-eq-LFS_TYPE_INLINESTRUCT.true

pub returns : goal.returns
returns c = neither _ _ c.args.s.now c.lfs_tag_type3-kind.ensures
    c.if-kind-eq-LFS_TYPE_CTZSTRUCT.false c.if-kind-eq-LFS_TYPE_INLINESTRUCT.false
