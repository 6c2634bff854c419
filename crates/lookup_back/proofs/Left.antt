-- A step of `Back` is a step of format's walk back. Assumes nothing.
use mathlib.Core.Path.{◌≡◌, ◌∙◌}
use mathlib.Core.List.{[]}
use Prim.Native.Nat.{ℕ, ◌+◌, ◌<◌}
use native.Mathlib.Omega.{arith}
use Rattle.format.specs.Tag.{tag_length}
use Rattle.lookup_back.specs.Step.{Ends, tag_before}
use Rattle.lookup_back.specs.Left.{left, Step}
use Rattle.lookup_back.specs.declared.Back.{Back}
use Rattle.lookup_back.proofs.Step.{back_over, back_on, back_word}

pub left_over : (s : Back) → s.off < 4 + tag_length s.tag → left s ≡ []
unfolding left
left_over s h = back_over s.b.now s.off s.tag h

-- s' is what is left behind the tag that stands at `at`, where w is the tag before it
pub left_on : (s : Back) (at : ℕ) → Ends s.off s.tag at → (w : ℕ) → w ≡ tag_before s.b.now at s.tag → (s' : Back)
    → s'.b.now ≡ s.b.now → s'.off ≡ at → s'.tag ≡ w → Step s at s.tag s'
unfolding left
left_on s at e w ew s' eb eo et = record {
  is = back_on s.b.now s.off s.tag at e ∙ rw (eb, eo, et, ew);
  ends = omega (arith, e.more, e.is);
  first = omega (arith, e.more, e.is);
  word = back_word s.off s.tag at e;
  on = eo;
}
