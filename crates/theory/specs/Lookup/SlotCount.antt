-- The rules forwards, over the number of slots: what is allowed, that the count is the number of slots, and that a
-- commit keeps it so. Assumes nothing.
use Rattle.std.specs.Prelude.{◌≡◌, refl, Bool, true, ℕ, suc, ◌-◌, max, length}
use Rattle.std.proofs.Common.{ap, ◌∙◌}
use mathlib.Core.List.{List, [], ◌∷◌, reverse, reverse_aux}
use Rattle.format.specs.Walk.{Event}
use Rattle.format.specs.Directory.{Act, mk, rm, put, skip, apply, Slot, empty, dir, dir_of, acts, apply_all}
use Rattle.theory.specs.Walk.Locality.{AllContained}
use Rattle.theory.specs.Directory.Machine.{Allowed, grows_behind, still_grows, length_ins, length_del, length_put}
use Rattle.theory.specs.Directory.Machine.{AllAllowed}
use Rattle.theory.specs.Directory.Acts.{dir_rev}
use Rattle.theory.specs.Back.BackActs.{Eights}

-- the rules forwards, over the count
unfoldable pub slots_after : ℕ → Act → ℕ
slots_after n (mk j) = suc n
slots_after n (rm j) = n - 1
slots_after n (put j c v) = max n (suc j)
slots_after n skip = n

-- g: what is set may make slots
abbrev pub AllowedFrom : Bool → ℕ → List Act → Type 0
AllowedFrom g n [] = Unit {0}
AllowedFrom g n (a ∷ l) = Allowed g a n × AllowedFrom (grows_behind g a) (slots_after n a) l

unfoldable pub slots_after_all : ℕ → List Act → ℕ
slots_after_all n [] = n
slots_after_all n (a ∷ l) = slots_after_all (slots_after n a) l

pub length_apply : (g : Bool) (D : List Slot) (a : Act) → Allowed g a (length D)
    → length (apply D a) ≡ slots_after (length D) a
unfolding apply slots_after
length_apply g D (mk j) h = length_ins D j empty h
length_apply g D (rm j) h = length_del D j h
length_apply g D (put j c v) h = length_put D j c v
length_apply g D skip h = refl

allowed_rev : (g : Bool) (l r : List Act) → AllAllowed g r → AllowedFrom (still_grows g r) (length (dir r)) l
    → AllAllowed g (reverse_aux l r)
unfolding dir
allowed_rev g [] r h f = h
allowed_rev g (a ∷ l) r h f = allowed_rev g l (a ∷ r) (f.0, h)
    (rw (length_apply (still_grows g r) (dir r) a f.0) f.1)

pub allowed_newest : (g : Bool) (l : List Act) → AllowedFrom g 0 l → AllAllowed g (reverse l)
unfolding dir
allowed_newest g l f = allowed_rev g l [] tt f

-- the count is the number of slots
pub slots_all : (g : Bool) (l : List Act) (D : List Slot) → AllowedFrom g (length D) l
    → length (apply_all D l) ≡ slots_after_all (length D) l
unfolding apply_all slots_after_all
slots_all g [] D f = refl
slots_all g (a ∷ l) D f =
    let e : length (apply D a) ≡ slots_after (length D) a = length_apply g D a f.0 in
    slots_all (grows_behind g a) l (apply D a) (rw e f.1) ∙ ap (λ n. slots_after_all n l) e

pub length_dir_of : (es : List Event) → AllowedFrom true 0 (acts es) → length (dir_of es) ≡ slots_after_all 0 (acts es)
unfolding dir_of dir
length_dir_of es f = rw (dir_rev (acts es) []) (slots_all true (acts es) [] f)

-- ---- a log that is regular, by either rule, as far as the lookups and the walk ask
pub record Sound (es : List Event) : Type 0 where
  pub reg : AllContained es
  pub eight : Eights es
  pub rules : AllowedFrom true 0 (acts es)
