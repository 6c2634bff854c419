-- `commit_regular::tags::Tags::next` meets its contract: nothing is left, or a check or an entry is met. Assumes
-- nothing.
use mathlib.Core.Path.{refl}
use mathlib.Core.Logic.{∥∥₁_map}
use native.Mathlib.Omega.{arith}
use Rattle.format.proofs.Words.{tag_length_ge}
use Rattle.commit_regular.proofs.Left.{goes_on, over, check_goes, entry_goes, word_fits, tag_fits, tag_small}
use Rattle.commit_regular.proofs.tags.TagsIterator.next.Goals as goal

pub returns-then-self-clause-steps : goal.returns-then-self-clause-steps
returns-then-self-clause-steps c = λ k. over c.args.self.now k c.if-self.true

pub be32-requires : goal.be32-requires
be32-requires c = word_fits c.args.self.now c.if-self.false

pub overflow_add-self : goal.overflow_add-self
overflow_add-self c =
    let h = tag_fits c.args.self.now c.if-self.false _ c.be32.ensures in
    omega (arith, h, c.lfs_tag_dsize.ensures)

pub flipped-self-requires : goal.flipped-self-requires
flipped-self-requires c = tag_small c.args.self.now c.if-self.false _ c.be32.ensures

pub invariant_of-self : goal.invariant_of-self
invariant_of-self c = record {
  onwards = ∥∥₁_map c.args.self.now.onwards (λ k. (check_goes c.args.self.now k c.if-self.false _ c.be32.ensures _
      c.lfs_tag_dsize.ensures _ c.is_check.ensures c.if-is_check.true _ c.flipped-self.ensures).behind);
}

pub returns-then-is_check-clause-steps : goal.returns-then-is_check-clause-steps
returns-then-is_check-clause-steps c = λ k. goes_on c.args.self.now k _ _ _ (check_goes c.args.self.now k
    c.if-self.false _ c.be32.ensures _ c.lfs_tag_dsize.ensures _ c.is_check.ensures c.if-is_check.true _
    c.flipped-self.ensures) _ refl refl refl refl

pub returns-then-is_check-clause-goes : goal.returns-then-is_check-clause-goes
returns-then-is_check-clause-goes c =
    record { on = λ f. (tt, tt, omega (arith, c.if-self.false, c.lfs_tag_dsize.ensures, tag_length_ge)); keeps = tt; rests = λ f. tt }

pub invariant_of-self-2 : goal.invariant_of-self-2
invariant_of-self-2 c = record {
  onwards = ∥∥₁_map c.args.self.now.onwards (λ k. (entry_goes c.args.self.now k c.if-self.false _ c.be32.ensures _
      c.lfs_tag_dsize.ensures _ c.is_check.ensures c.if-is_check.false).behind);
}

pub returns-clause-steps : goal.returns-clause-steps
returns-clause-steps c = λ k. goes_on c.args.self.now k _ _ _ (entry_goes c.args.self.now k c.if-self.false _
    c.be32.ensures _ c.lfs_tag_dsize.ensures _ c.is_check.ensures c.if-is_check.false) _ refl refl refl refl

pub returns-clause-goes : goal.returns-clause-goes
returns-clause-goes c =
    record { on = λ f. (tt, tt, omega (arith, c.if-self.false, c.lfs_tag_dsize.ensures, tag_length_ge)); keeps = tt; rests = λ f. tt }
