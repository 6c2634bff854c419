-- `fetch_walk::dir::DirState::entry` meets its contract, by the tests in order. Assumes nothing.
use mathlib.Core.Path.{◌≡◌, refl, sym, ◌∙◌}
use native.Mathlib.Omega.{arith}
use Rattle.format.specs.Tag.{tag_type1}
use Rattle.fetch_walk.proofs.Steps.{enter_name, enter_splice, enter_tail, enter_forward, enter_other, tail_reads}
use Rattle.fetch_walk.proofs.Steps.{forward_reads}
use Rattle.fetch_walk.proofs.dir.DirState.entry.Goals.{Else-type1-eq-LFS_TYPE_NAME, Else-type1-eq-LFS_TYPE_SPLICE, Else-type1-eq-LFS_TYPE_TAIL, Then-type1-eq-LFS_TYPE_TAIL}
use Rattle.fetch_walk.proofs.dir.DirState.entry.Goals as goal

-- what the tests said, at the places where they were made
not_name : (c : Else-type1-eq-LFS_TYPE_NAME) → tag_type1 c.args.tag ≡ 0 → ⊥
not_name c q = c.if-type1-eq-LFS_TYPE_NAME.false (c.lfs_tag_type1-type1.ensures ∙ q)

not_splice : (c : Else-type1-eq-LFS_TYPE_SPLICE) → tag_type1 c.args.tag ≡ 0x400 → ⊥
not_splice c q = c.if-type1-eq-LFS_TYPE_SPLICE.false (c.lfs_tag_type1-type1.ensures ∙ q)

is_tail_lem : (c : Then-type1-eq-LFS_TYPE_TAIL) → tag_type1 c.args.tag ≡ 0x600
is_tail_lem c = sym c.lfs_tag_type1-type1.ensures ∙ c.if-type1-eq-LFS_TYPE_TAIL.true

not_tail : (c : Else-type1-eq-LFS_TYPE_TAIL) → tag_type1 c.args.tag ≡ 0x600 → ⊥
not_tail c q = c.if-type1-eq-LFS_TYPE_TAIL.false (c.lfs_tag_type1-type1.ensures ∙ q)

pub returns-then-type1-eq-LFS_TYPE_NAME : goal.returns-then-type1-eq-LFS_TYPE_NAME
returns-then-type1-eq-LFS_TYPE_NAME c = enter_name _ _ _ _ (sym c.lfs_tag_type1-type1.ensures ∙ c.if-type1-eq-LFS_TYPE_NAME.true)
    c.name.ensures

pub returns-then-type1-eq-LFS_TYPE_SPLICE : goal.returns-then-type1-eq-LFS_TYPE_SPLICE
returns-then-type1-eq-LFS_TYPE_SPLICE c = enter_splice _ _ _ _ (not_name (goal.at.returns-then-type1-eq-LFS_TYPE_SPLICE c).Else-type1-eq-LFS_TYPE_NAME)
    (sym c.lfs_tag_type1-type1.ensures ∙ c.if-type1-eq-LFS_TYPE_SPLICE.true) c.splice.ensures

pub tail-requires : goal.tail-requires
tail-requires c = omega (arith, tail_reads _ (is_tail_lem (goal.at.tail-requires c).Then-type1-eq-LFS_TYPE_TAIL))

pub returns-then-type1-eq-LFS_TYPE_TAIL : goal.returns-then-type1-eq-LFS_TYPE_TAIL
returns-then-type1-eq-LFS_TYPE_TAIL c = enter_tail _ _ _ _ (not_name (goal.at.returns-then-type1-eq-LFS_TYPE_TAIL c).Else-type1-eq-LFS_TYPE_NAME) (not_splice (goal.at.returns-then-type1-eq-LFS_TYPE_TAIL c).Else-type1-eq-LFS_TYPE_SPLICE)
    (is_tail_lem (goal.at.returns-then-type1-eq-LFS_TYPE_TAIL c).Then-type1-eq-LFS_TYPE_TAIL) c.tail.ensures

pub forward-requires : goal.forward-requires
forward-requires c = omega (arith, forward_reads _ (sym c.lfs_tag_type3.ensures ∙ c.if-lfs_tag_type3-eq-LFS_TYPE_FCRC.true))

pub returns-then-lfs_tag_type3-eq-LFS_TYPE_FCRC : goal.returns-then-lfs_tag_type3-eq-LFS_TYPE_FCRC
returns-then-lfs_tag_type3-eq-LFS_TYPE_FCRC c = enter_forward _ _ _ _ (not_name (goal.at.returns-then-lfs_tag_type3-eq-LFS_TYPE_FCRC c).Else-type1-eq-LFS_TYPE_NAME)
    (not_splice (goal.at.returns-then-lfs_tag_type3-eq-LFS_TYPE_FCRC c).Else-type1-eq-LFS_TYPE_SPLICE) (not_tail (goal.at.returns-then-lfs_tag_type3-eq-LFS_TYPE_FCRC c).Else-type1-eq-LFS_TYPE_TAIL)
    (sym c.lfs_tag_type3.ensures ∙ c.if-lfs_tag_type3-eq-LFS_TYPE_FCRC.true) c.forward.ensures

pub returns : goal.returns
returns c = enter_other _ _ _ _ (not_name (goal.at.returns c).Else-type1-eq-LFS_TYPE_NAME)
    (not_splice (goal.at.returns c).Else-type1-eq-LFS_TYPE_SPLICE) (not_tail (goal.at.returns c).Else-type1-eq-LFS_TYPE_TAIL)
    (λ q. c.if-lfs_tag_type3-eq-LFS_TYPE_FCRC.false (c.lfs_tag_type3.ensures ∙ q)) refl
