-- Laws of littlefs's rule: where names make no slots it is document 01's, and where an entry passes its rule at the
-- count as it is, nothing is raised. So a log that is regular by document 01 is so by littlefs's rule. Assumes nothing.
use mathlib.Core.Path.{◌≡◌, refl}
use mathlib.Core.Bool.{Bool, true, false, cond, ◌&&◌}
use mathlib.Core.List.{List, [], ◌∷◌}
use Prim.Native.Nat.{ℕ, suc, ◌<◌}
use lib.Dec.{leb, ltb}
use borrow.Author.Tests.{ltb-true, lt-leb}
use Rattle.format.specs.Tag.{tag_type3, tag_id, tag_size}
use Rattle.format.specs.Walk.{Event, ent, chk, inv}
use Rattle.format.specs.Regular.{Rule, rule_of, between, rule_holds, count_after, grows_after, count_raised}
use Rattle.format.specs.Regular.{regular_from, Regular, create, delete, name, inlined, eight, attribute, tail}
use Rattle.format.specs.Regular.{move, forward, bad}
use Rattle.format.specs.declared.Rules.{Rules}
use Rattle.format.specs.declared.Rules.TheVariants.{Document, Littlefs}

-- ---- where names make no slots
pub grows_never : (R : Rule) → grows_after false R ≡ false
unfolding grows_after
grows_never create = refl
grows_never delete = refl
grows_never name = refl
grows_never inlined = refl
grows_never eight = refl
grows_never attribute = refl
grows_never tail = refl
grows_never move = refl
grows_never forward = refl
grows_never bad = refl

pub raised_never : (R : Rule) (c id : ℕ) → count_raised false R c id ≡ c
unfolding count_raised
raised_never create c id = refl
raised_never delete c id = refl
raised_never name c id = refl
raised_never inlined c id = refl
raised_never eight c id = refl
raised_never attribute c id = refl
raised_never tail c id = refl
raised_never move c id = refl
raised_never forward c id = refl
raised_never bad c id = refl

-- ---- where an entry passes at the count as it is
named_there : (g : Bool) (c id : ℕ) → id < c → cond (g && (leb c id && leb id 1_022)) (suc id) c ≡ c
named_there true c id h = rw (lt-leb c id h)
named_there false c id h = refl

left_true : (a b : Bool) → a && b ≡ true → a ≡ true
left_true true b h = refl
left_true false b h = h

right_true : (a b : Bool) → a && b ≡ true → b ≡ true
right_true true b h = h
right_true false b h = cc

pub raised_there : (g : Bool) (R : Rule) (c id size : ℕ) → rule_holds R c id size ≡ true → count_raised g R c id ≡ c
unfolding count_raised rule_holds
raised_there g create c id size h = refl
raised_there g delete c id size h = refl
raised_there g name c id size h = named_there g c id
    (ltb-true id c (left_true (ltb id c) (between 1 1_022 size) h))
raised_there g inlined c id size h = refl
raised_there g eight c id size h = refl
raised_there g attribute c id size h = refl
raised_there g tail c id size h = refl
raised_there g move c id size h = refl
raised_there g forward c id size h = refl
raised_there g bad c id size h = refl

-- ---- so document 01's rule is the narrower one
pub regular_grows : (es : List Event) (g : Bool) (c : ℕ) → regular_from false c es ≡ true → regular_from g c es ≡ true
unfolding regular_from
regular_grows [] g c h = refl
regular_grows (ent t d ∷ es) g c h =
    let R : Rule = rule_of true (tag_type3 t) in
    let k : rule_holds R c (tag_id t) (tag_size t) && regular_from false (count_after R c) es ≡ true
    = rw (raised_never R c (tag_id t), grows_never R) at h in
    let p : rule_holds R c (tag_id t) (tag_size t) ≡ true = left_true _ _ k in
    rw (raised_there g R c (tag_id t) (tag_size t) p, p)
    (regular_grows es (grows_after g R) (count_after R c)
    (right_true (rule_holds R c (tag_id t) (tag_size t)) (regular_from false (count_after R c) es) k))
regular_grows (chk t x ∷ es) g c h =
    rw (left_true (between 4 1_022 (tag_size t)) (regular_from false c es) h)
    (regular_grows es g c (right_true (between 4 1_022 (tag_size t)) (regular_from false c es) h))
regular_grows (inv ∷ es) g c h = regular_grows es g c h

-- a log that is regular by document 01 is so by littlefs's rule: of the two, littlefs's is the wider
pub widest : (r : Rules) (es : List Event) → Regular r es ≡ true → Regular Littlefs es ≡ true
unfolding Regular
widest Document es h = regular_grows es true 0 h
widest Littlefs es h = h
