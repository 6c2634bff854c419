-- The class of a tag at the head of so many bytes: from the tests in the order in which code makes them, and back.
-- Assumes nothing.
use mathlib.Core.Path.{◌≡◌, refl}
use mathlib.Core.Bool.{Bool, true, false, cond}
use Prim.Native.Nat.{ℕ, ◌+◌, ◌^◌, ◌≤◌, ◌<◌}
use lib.Dec.{leb}
use borrow.Author.Tests.{le-leb, lt-leb, leb-true, ltb-true, lt-ltb, le-ltb}
use Rattle.format.specs.Tag.{tag_valid, tag_length}
use Rattle.format.specs.Kind.{is_check, is_wide}
use Rattle.format.specs.Walk.{Class, past, invalid, check, entry, read_behind, class_of}

-- ---- the classes, from the tests in order
pub class_short : (t left : ℕ) → left < 4 → class_of t left ≡ past
unfolding class_of
class_short t left l = rw (lt-leb 4 left l)

module _ (t left : ℕ) (l : 4 ≤ left) where
  pub class_invalid : 2 ^ 31 ≤ t → class_of t left ≡ invalid
  unfolding class_of
  class_invalid v = rw (le-leb 4 left l, le-ltb t (2 ^ 31) v)

  module _ (v : t < 2 ^ 31) where
    pub class_long : left < tag_length t → class_of t left ≡ past
    unfolding class_of
    class_long h = rw (le-leb 4 left l, lt-ltb t (2 ^ 31) v, lt-leb (tag_length t) left h)

    module _ (fits : tag_length t ≤ left) where
      pub class_unread : left < 4 + read_behind t → class_of t left ≡ past
      unfolding class_of
      class_unread h = rw (
        le-leb 4 left l,
        lt-ltb t (2 ^ 31) v,
        le-leb (tag_length t) left fits,
        lt-leb (4 + read_behind t) left h,
      )

      pub class_check : 4 + read_behind t ≤ left → is_check t ≡ true → class_of t left ≡ check
      unfolding class_of
      class_check h c = rw (
        le-leb 4 left l,
        lt-ltb t (2 ^ 31) v,
        le-leb (tag_length t) left fits,
        le-leb (4 + read_behind t) left h,
        c,
      )

      pub class_entry : 4 + read_behind t ≤ left → is_check t ≡ false → class_of t left ≡ entry
      unfolding class_of
      class_entry h c = rw (
        le-leb 4 left l,
        lt-ltb t (2 ^ 31) v,
        le-leb (tag_length t) left fits,
        le-leb (4 + read_behind t) left h,
        c,
      )

-- ---- and back: what a class says
abbrev pick : Bool → Bool → Bool → Bool → Bool → Class
pick four valid fits reach is = cond four (cond valid (cond fits (cond reach (cond is check entry) past) past) invalid)
    past

abbrev Passed : Bool → Bool → Bool → Bool → Bool → Type 0
Passed valid fits reach is wanted = (valid ≡ true) × (fits ≡ true) × (reach ≡ true) × (is ≡ wanted)

pick_check : (f v l r c : Bool) → pick f v l r c ≡ check → Passed v l r c true
pick_check false v l r c h = (cc, cc, cc, cc)
pick_check true false l r c h = (cc, cc, cc, cc)
pick_check true true false r c h = (cc, cc, cc, cc)
pick_check true true true false c h = (cc, cc, cc, cc)
pick_check true true true true true h = (refl, refl, refl, refl)
pick_check true true true true false h = (cc, cc, cc, cc)

pick_entry : (f v l r c : Bool) → pick f v l r c ≡ entry → Passed v l r c false
pick_entry false v l r c h = (cc, cc, cc, cc)
pick_entry true false l r c h = (cc, cc, cc, cc)
pick_entry true true false r c h = (cc, cc, cc, cc)
pick_entry true true true false c h = (cc, cc, cc, cc)
pick_entry true true true true true h = (cc, cc, cc, cc)
pick_entry true true true true false h = (refl, refl, refl, refl)

-- a valid tag that is wholly in so many bytes, with what is read behind it
pub record Whole (t left : ℕ) : Type 0 where
  pub small : t < 2 ^ 31
  pub fits : tag_length t ≤ left
  pub reach : 4 + read_behind t ≤ left

whole : (t left : ℕ) (is : Bool) → Passed (tag_valid t) (leb (tag_length t) left) (leb (4 + read_behind t) left)
    (is_check t) is → Whole t left
whole t left is r = record {
  small = ltb-true t (2 ^ 31) r.0;
  fits = leb-true (tag_length t) left r.1;
  reach = leb-true (4 + read_behind t) left r.2;
}

pub check_says : (t left : ℕ) → class_of t left ≡ check → Whole t left × (is_check t ≡ true)
unfolding class_of
check_says t left h =
    let r = pick_check (leb 4 left) (tag_valid t) (leb (tag_length t) left) (leb (4 + read_behind t) left) (is_check t) h in
    (whole t left true r, r.3)

pub entry_says : (t left : ℕ) → class_of t left ≡ entry → Whole t left × (is_check t ≡ false)
unfolding class_of
entry_says t left h =
    let r = pick_entry (leb 4 left) (tag_valid t) (leb (tag_length t) left) (leb (4 + read_behind t) left) (is_check t) h in
    (whole t left false r, r.3)

-- ---- what is read behind a tag
pub behind_check : (t : ℕ) → is_check t ≡ true → read_behind t ≡ 4
unfolding read_behind
behind_check t h = rw h

pub behind_wide : (t : ℕ) → is_check t ≡ false → is_wide t ≡ true → read_behind t ≡ 8
unfolding read_behind
behind_wide t h k = rw (h, k)

pub behind_plain : (t : ℕ) → is_check t ≡ false → is_wide t ≡ false → read_behind t ≡ 0
unfolding read_behind
behind_plain t h k = rw (h, k)
