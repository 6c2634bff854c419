-- The count behind an entry that passes its rule fits a word, and the answer by cases. Assumes nothing.
use mathlib.Core.Path.{◌≡◌, refl, sym, ap, ◌∙◌}
use mathlib.Core.Bool.{Bool, true, false, ◌&&◌}
use Prim.Native.Nat.{ℕ, ◌+◌, ◌^◌, ◌≤◌, ◌<◌}
use native.Mathlib.Omega.{arith}
use lib.Dec.{leb, eqb}
use borrow.Author.Tests.{leb-true}
use Rattle.format.specs.Regular.{Rule, rule_holds, count_after, grows_after, count_raised, create, delete, name, inlined}
use Rattle.format.specs.Regular.{eight, attribute, tail, move, forward, bad}
use Rattle.commit_rules.specs.Rules.{rule_as, passed_by}
use Rattle.commit_rules.specs.declared.Rule as declared
use Rattle.commit_rules.specs.declared.Rule.TheVariants as told
use Rattle.std.specs.Prelude.{None, Some}

both : (a b : Bool) → a && b ≡ true → (a ≡ true) × (b ≡ true)
both true b e = (refl, e)
both false b e = (cc, cc)

pub count_fits : (R : Rule) (c id size : ℕ) → c < 2 ^ 32 → rule_holds R c id size ≡ true → count_after R c < 2 ^ 32
unfolding rule_holds count_after
count_fits create c id size h k =
    let r = both (leb id c && leb c 1_022) (eqb size 0) k in
    let q = both (leb id c) (leb c 1_022) r.0 in
    omega (arith, leb-true c 1_022 q.1)
count_fits delete c id size h k = omega arith
count_fits name c id size h k = h
count_fits inlined c id size h k = h
count_fits eight c id size h k = h
count_fits attribute c id size h k = h
count_fits tail c id size h k = h
count_fits move c id size h k = h
count_fits forward c id size h k = h
count_fits bad c id size h k = h

module _ (R : Rule) (c id size : ℕ) (x : Bool) (tested : x ≡ rule_holds R c id size) where
  pub passes : (n : ℕ) → x ≡ true → n ≡ count_after R c → Some n ≡ passed_by R c id size
  passes n h e = rw (sym tested ∙ h) (ap Some e)

  pub fails : x ≡ false → None ≡ passed_by R c id size
  fails h = rw (sym tested ∙ h)

-- ---- littlefs's rule: what the code's one test of a name says
pub names_raise : (g : Bool) (c id : ℕ) → g && (leb c id && leb id 1_022) ≡ true
    → (id + 1 < 2 ^ 32) × (id + 1 ≡ count_raised g name c id)
unfolding count_raised
names_raise g c id h =
    let most : id ≤ 1_022 = leb-true id 1_022 (both (leb c id) (leb id 1_022) (both g (leb c id && leb id 1_022) h).1
    ).1 in
    (omega arith, rw h (omega arith))

pub names_stay : (g : Bool) (c id : ℕ) → g && (leb c id && leb id 1_022) ≡ false → c ≡ count_raised g name c id
unfolding count_raised
names_stay g c id h = rw h

-- a rule that is told by a `_`, behind create and delete: it leaves the count
pub count_stays : (R : declared.Rule) (c : ℕ) → (R ≡ told.Create → ⊥) → (R ≡ told.Delete → ⊥)
    → c ≡ count_after (rule_as R) c
unfolding count_after
count_stays told.Create c h _ = absurd (h refl)
count_stays told.Delete c _ h = absurd (h refl)
count_stays told.Name c _ _ = refl
count_stays told.Inlined c _ _ = refl
count_stays told.Eight c _ _ = refl
count_stays told.Attribute c _ _ = refl
count_stays told.Tail c _ _ = refl
count_stays told.Move c _ _ = refl
count_stays told.Forward c _ _ = refl
count_stays told.Bad c _ _ = refl

-- a rule that is told by a `_`, behind name: it raises nothing
pub raises_none : (R : declared.Rule) (g : Bool) (c id : ℕ)
    → (R ≡ told.Name → ⊥) → c ≡ count_raised g (rule_as R) c id
unfolding count_raised
raises_none told.Name g c id h = absurd (h refl)
raises_none told.Create g c id _ = refl
raises_none told.Delete g c id _ = refl
raises_none told.Inlined g c id _ = refl
raises_none told.Eight g c id _ = refl
raises_none told.Attribute g c id _ = refl
raises_none told.Tail g c id _ = refl
raises_none told.Move g c id _ = refl
raises_none told.Forward g c id _ = refl
raises_none told.Bad g c id _ = refl

-- and one told by a `_` behind create and delete: names may make slots as before
pub grows_on : (R : declared.Rule) (g : Bool) → (R ≡ told.Create → ⊥) → (R ≡ told.Delete → ⊥)
    → g ≡ grows_after g (rule_as R)
unfolding grows_after
grows_on told.Create g h _ = absurd (h refl)
grows_on told.Delete g _ h = absurd (h refl)
grows_on told.Name g _ _ = refl
grows_on told.Inlined g _ _ = refl
grows_on told.Eight g _ _ = refl
grows_on told.Attribute g _ _ = refl
grows_on told.Tail g _ _ = refl
grows_on told.Move g _ _ = refl
grows_on told.Forward g _ _ = refl
grows_on told.Bad g _ _ = refl
