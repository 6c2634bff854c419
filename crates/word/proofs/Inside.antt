-- Words at an offset: what the test of the offset tells, and what a store leaves. Assumes nothing.
use Rattle.std.proofs.Common.{◌≡◌, sym, refl, ◌∙◌, Bool, true, false, cond, List, ℕ, ◌+◌, ◌≤◌, length, take, drop, append_assoc}
use Rattle.std.proofs.lemmas.List.Edits.{sets, sets-eq, paste_all}
use Rattle.std.proofs.lemmas.Slice.{put_mid-paste}
use borrow.Rule.Slice.PartMut.{put_mid}
use borrow.Author.Tests.{leb-true}
use Rattle.format.specs.Bytes.{inside}

-- r is the answer of `has_word`
pub is_inside : (s : List ℕ) (at : ℕ) (r : Bool) → r ≡ inside s at → r ≡ true → at + 4 ≤ length s
is_inside s at r e t = leb-true (at + 4) (length s) (sym e ∙ t)

-- the case that a test decides
pub first : {A : Type 0} (r test : Bool) (x y : A) → r ≡ test → r ≡ true → x ≡ cond test x y
first r test x y e t = rw (sym e ∙ t)

pub second : {A : Type 0} (r test : Bool) (x y : A) → r ≡ test → r ≡ false → y ≡ cond test x y
second r test x y e t = rw (sym e ∙ t)

-- a part of the slice that is written as a whole: l, which is now m
pub stored : (s : List ℕ) (at k : ℕ) (l m : List ℕ) → at + length l ≤ length s → k ≡ length l → m ≡ l
    → put_mid at k s m ≡ sets s at l
stored s at k l m h n e =
    put_mid-paste at k s m l (length l) e (sym n) refl ∙ paste_all s at l (length l) refl ∙ sym (sets-eq l s at h ∙ append_assoc (take at s) l (drop (at + length l) s))
