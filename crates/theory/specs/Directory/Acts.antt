-- Events as acts of the directory machine, and the directory of a log. Assumes nothing.
use Rattle.std.specs.Prelude.{◌≡◌, refl}
use Rattle.std.proofs.Common.{ap}
use mathlib.Core.List.{List, [], ◌∷◌, ◌++◌, reverse_aux}
use Rattle.format.specs.Walk.{Event, ent, chk, inv}
use Rattle.format.specs.Directory.{Act, skip, dir, Slot, apply, apply_all, act, acts, dir_of}

pub dir_rev : (l r : List Act) → dir (reverse_aux l r) ≡ apply_all (dir r) l
unfolding apply_all dir
dir_rev [] r = refl
dir_rev (a ∷ l) r = dir_rev l (a ∷ r)

pub apply_all_app : (D : List Slot) (k l : List Act) → apply_all D (k ++ l) ≡ apply_all (apply_all D k) l
unfolding apply_all
apply_all_app D [] l = refl
apply_all_app D (a ∷ k) l = apply_all_app (apply D a) k l

pub acts_app : (es more : List Event) → acts (es ++ more) ≡ acts es ++ acts more
unfolding acts
acts_app [] more = refl
acts_app (ent t d ∷ es) more = ap (λ z. act t d ∷ z) (acts_app es more)
acts_app (chk t c ∷ es) more = ap (λ z. skip ∷ z) (acts_app es more)
acts_app (inv ∷ es) more = acts_app es more

pub dir_of_app : (es more : List Event) → dir_of (es ++ more) ≡ apply_all (dir_of es) (acts more)
unfolding dir_of dir
dir_of_app es more = rw (acts_app es more, dir_rev (acts es ++ acts more) [], dir_rev (acts es) [])
    (apply_all_app (dir []) (acts es) (acts more))
